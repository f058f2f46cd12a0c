-- What is under a desk's lock, and what a session does there.
use Rattle.std.specs.Prelude.{◌≡◌, ℕ, ◌+◌, ◌≤◌, length, Option}
use mathlib.Core.List.{IsPrefix}
use Rattle.ilp_journal.specs.Journal.{Entries}
use Rattle.ilp_book.specs.declared.calls.Asked.{Asked}
use Rattle.ilp_book.specs.Book.{PlainBook, Made, Does}
use Rattle.ilp_book.specs.SettleStep.{open_settlement}
use Rattle.ilp_accounts.specs.Limits.{most_workers}
use Rattle.ilp_report.specs.Report.{PlainSnapshot, snapshot_of}
use Rattle.ilp_desk.specs.Desk.{PlainDesk, IsBookOf, actors_of, booked}
use Rattle.ilp_desk.specs.Portion.{Portion}

-- Under the lock is a book of the desk, with a ledger that has a part for each actor and stands at the number of entries since
-- the opening.
pub record IsLocked (desk : PlainDesk) (parts workers total : ℕ) (book : PlainBook) : Type 0 where
  pub of_desk : IsBookOf desk book
  pub counted : total ≡ length (booked desk book.entries)
  pub cut : parts ≡ actors_of desk
  pub told : workers ≡ desk.workers
  pub few : workers ≤ most_workers

-- A session finds a book of the desk and leaves one, and raises the share that it is lent by the entries that the journal gains.
pub record IsSession (desk : PlainDesk) (old new : PlainBook) (before after : Portion) : Type 0 where
  pub found : IsBookOf desk old
  pub left : IsBookOf desk new
  pub actor : after.actor ≡ before.actor
  pub raised : after.entries + length old.entries ≡ before.entries + length new.entries

-- What is known of a session once its lock is let go: some book of the desk was found there, and what the step makes of it is what
-- was replied and booked.
abbrev pub IsReplyAt : {R : Type 0} → PlainDesk → (PlainBook → Made R) → Portion → Portion → R → Type 0
IsReplyAt desk step before after reply =
    (old new : PlainBook) × IsSession desk old new before after × Does old new reply (step old)

-- What is known of a session that a receipt is shown, besides: what the receipt had seen begins what was found there, and from then
-- on it has seen what was left, the session's entry too.
abbrev pub IsShownAt : {R : Type 0} → PlainDesk → (PlainBook → Made R) → Entries → Entries → Portion → Portion → R → Type 0
IsShownAt desk step seen shown before after reply =
    (old new : PlainBook) × IsSession desk old new before after × Does old new reply (step old) × IsPrefix seen old.entries × (shown ≡ new.entries)

-- What is known of a look at a peer's open settlements once the lock is let go: in some book of the desk this is the one that comes
-- next, behind the one that was tried last.
abbrev pub IsLookAt : PlainDesk → ℕ → Option ℕ → Option Asked → Type 0
IsLookAt desk peer tried found = (book : PlainBook) × IsBookOf desk book × found ≡ open_settlement book.entries peer tried

-- And of one that a receipt is shown, besides: what it had seen begins that book's entries, and from then on it has seen them all.
abbrev pub IsShownLook : PlainDesk → ℕ → Option ℕ → Entries → Entries → Option Asked → Type 0
IsShownLook desk peer tried seen shown found =
    (book : PlainBook) × IsBookOf desk book × (found ≡ open_settlement book.entries peer tried) × IsPrefix seen book.entries × (shown ≡ book.entries)

-- What is known of a copy once the lock is let go: it tells all that some book of the desk came to.
abbrev pub IsCopyOf : PlainDesk → PlainSnapshot → Type 0
IsCopyOf desk snapshot = (book : PlainBook) × IsBookOf desk book × snapshot ≡ snapshot_of book

-- What is known of a receipt once the lock is let go: it has seen all entries that some book of the desk had.
abbrev pub IsSeenAt : PlainDesk → Entries → Type 0
IsSeenAt desk seen = (book : PlainBook) × IsBookOf desk book × seen ≡ book.entries

-- And of one that was shown them: what it had seen begins them.
abbrev pub IsSeenSince : PlainDesk → Entries → Entries → Type 0
IsSeenSince desk before after = (book : PlainBook) × IsBookOf desk book × IsPrefix before book.entries × after ≡ book.entries
