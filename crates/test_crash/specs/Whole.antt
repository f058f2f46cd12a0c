-- What was told is there behind a crash.
use Rattle.std.specs.Prelude.{◌≡◌, ℕ, ℤ, List, Option, Some}
use mathlib.Core.List.{IsPrefix}
use Rattle.ilp_journal.specs.Journal.{Entries}
use Rattle.ilp_book.specs.Book.{PlainBook, Made, Does}
use Rattle.ilp_desk.specs.Desk.{PlainDesk, IsBookOf}
use Rattle.ilp_desk.specs.Portion.{Portion}
use Rattle.ilp_desk.specs.Session.{IsSession}
use Rattle.ilp_refusals.specs.declared.refusal.Refusal.{Refusal}
use Rattle.ilp_refusals.specs.declared.refusal.Refusal.TheVariants.{Memory}
use Rattle.ilp_starting.specs.Beginning.{BeginsBy, IsWhyNotBegunBy}
use Rattle.ilp_crash_laws.specs.Crash.{IsWhole}

-- What an actor has seen is what its session left, with what that booked.
pub record IsLeftBy {R : Type 0} (desk : PlainDesk) (step : PlainBook → Made R) (before after : Portion) (reply : R) (seen : Entries) : Type 0 where
  pub old : PlainBook
  pub new : PlainBook
  pub session : IsSession desk old new before after
  pub does : Does old new reply (step old)
  pub all : seen ≡ new.entries

-- Of what any of these crashes leaves of a log that goes on from this text, the book of a start has all that was seen, and nothing
-- that some book of the desk hadn't, but for ends of holds. It is refused for nothing but want of memory.
pub record IsWholeBehind (desk : PlainDesk) (text : Option (List ℕ)) (crash : List ℕ → Type 0) (seen : Entries) : Type 0 where
  pub book : PlainBook
  pub of_desk : IsBookOf desk book
  pub whole : (octets : List ℕ) → crash octets → (now : ℤ) (recovered : PlainBook) → BeginsBy desk.config text (Some octets) now recovered → IsWhole seen book recovered
  pub refused : (octets : List ℕ) → crash octets → (refusal : Refusal) → IsWhyNotBegunBy desk.config text (Some octets) refusal → refusal ≡ Memory
