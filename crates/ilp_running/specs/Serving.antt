-- What a run of the connector comes to.
use Rattle.std.specs.Prelude.{◌≡◌, ℕ, List, ⊤, Option, Result, Ok, Err}
use Rattle.std.specs.Io.KnownBytes.{Appends}
use Rattle.ilp_io.specs.Writing.{AppendsProperPrefix}
use Rattle.ilp_accounts.specs.Configuration.{Configuration}
use Rattle.ilp_book.specs.Book.{PlainBook}
use Rattle.ilp_report.specs.Report.{report_text}
use Rattle.ilp_desk.specs.Desk.{PlainDesk, IsBookOf}
use Rattle.ilp_desk.specs.Portion.{Holding}
use Rattle.ilp_desk.specs.Gathering.{IsGathered, IsWhyNotGathered}
use Rattle.ilp_desk.specs.declared.gathering.WhyNotGathered.{WhyNotGathered}
use Rattle.ilp_desk.specs.declared.gathering.WhyNotGathered.TheVariants as why
use Rattle.ilp_refusals.specs.declared.refusal.Refusal.{Refusal}
use Rattle.ilp_refusals.specs.declared.refusal.Refusal.TheVariants as refusals
use Rattle.ilp_running.specs.declared.fault.ServeFault.{ServeFault}
use Rattle.ilp_running.specs.declared.fault.ServeFault.TheVariants.{Unprinted, NotGathered, NextRefused, Write}
use Rattle.ilp_threads.specs.declared.fault.Unprinted.TheVariants.{Memory, Listen, Spawn}

-- ---- refusals

-- the refusal that is printed
abbrev pub fault_refusal : ServeFault → Refusal
fault_refusal Write = refusals.WriteFault
fault_refusal (NextRefused refusal) = refusal
fault_refusal (Unprinted Memory) = refusals.Memory
fault_refusal (Unprinted (Listen side)) = refusals.ListenFault
fault_refusal (Unprinted Spawn) = refusals.SpawnFault
fault_refusal (NotGathered (why.Missing actor)) = refusals.MissingEnd actor
fault_refusal (NotGathered (why.Double actor)) = refusals.DoubleEnd actor
fault_refusal (NotGathered (why.Disagrees actor)) = refusals.Disagrees actor

-- ---- what is printed

-- the desk of a connector: of its configuration, and of the book that it begins with
abbrev pub desk_of : Configuration → PlainBook → PlainDesk
desk_of config book = record { config = config; workers = config.settings.workers; period = book.period; opening = book.entries }

-- A book of the desk in the end: it is lawful, and its journal begins with the desk's. There are ends of the desk's actors, which
-- add up to all that was booked since.
pub record IsClosed (desk : PlainDesk) (book : PlainBook) : Type 0 where
  pub ends : List Holding
  pub lawful : IsBookOf desk book
  pub gathered : IsGathered desk book ends

-- A book of the desk in the end, and ends that are not gathered with it, for this reason.
pub record IsNotGathered (desk : PlainDesk) (reason : WhyNotGathered) : Type 0 where
  pub book : PlainBook
  pub ends : List Holding
  pub lawful : IsBookOf desk book
  pub why : IsWhyNotGathered desk book ends reason

-- A fault that says nothing of a desk: no actor's end was looked at, or no next period could be begun.
abbrev pub IsOfNoDesk : ServeFault → Type 0
IsOfNoDesk Write = ⊥
IsOfNoDesk (NotGathered reason) = ⊥
IsOfNoDesk (NextRefused refusal) = ⊤
IsOfNoDesk (Unprinted reason) = ⊤

-- Why a desk is not closed: its ends were not gathered; or there were none.
abbrev pub IsWhyUnclosed : PlainDesk → ServeFault → Type 0
IsWhyUnclosed desk Write = ⊥
IsWhyUnclosed desk (NotGathered reason) = IsNotGathered desk reason
IsWhyUnclosed desk (NextRefused refusal) = ⊤
IsWhyUnclosed desk (Unprinted reason) = ⊤

-- The desk was closed, or why it was not.
abbrev pub ClosesDesk : PlainDesk → Result PlainBook ServeFault → Type 0
ClosesDesk desk (Ok book) = IsClosed desk book
ClosesDesk desk (Err fault) = IsWhyUnclosed desk fault

-- The report of the book was printed; or a write of it failed; or nothing was printed.
abbrev pub Prints : PlainBook → Option (List ℕ) → Option (List ℕ) → Result (Unit {0}) ServeFault → Type 0
Prints book old new (Ok done) = Appends old new (report_text book)
Prints book old new (Err Write) = AppendsProperPrefix old new (report_text book)
Prints book old new (Err (NotGathered reason)) = ⊥
Prints book old new (Err (NextRefused refusal)) = ⊥
Prints book old new (Err (Unprinted reason)) = new ≡ old

-- Why a connector gives no book back: it ran to its end and a write of the report failed; or its ends were not gathered, or there
-- is another reason, and nothing was printed.
abbrev pub Refuses : PlainDesk → Option (List ℕ) → Option (List ℕ) → ServeFault → Type 0
Refuses desk old new Write = (book : PlainBook) × IsClosed desk book × AppendsProperPrefix old new (report_text book)
Refuses desk old new (NotGathered reason) = IsNotGathered desk reason × (new ≡ old)
Refuses desk old new (NextRefused refusal) = new ≡ old
Refuses desk old new (Unprinted reason) = new ≡ old

-- the desk of a period that begins with this book
abbrev pub desk_of_book : PlainBook → PlainDesk
desk_of_book book = desk_of book.config book
