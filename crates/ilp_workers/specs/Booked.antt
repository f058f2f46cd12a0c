-- A packet that is booked and whose sender is not answered yet, as contracts see it, and the journal that a keeper was handed.
use Rattle.std.specs.Prelude.{◌≡◌, ℕ, List, length, Option, Some, None, Result, Ok}
use Rattle.ilp_journal.specs.Journal.{Entries}
use Rattle.ilp_desk.specs.Desk.{PlainDesk}
use Rattle.ilp_desk.specs.Session.{IsSeenSince}
use Rattle.ilp_keeping.specs.Keeping.{ToKeeper, IsHanded}
use Rattle.ilp_keeping.specs.declared.keeper.NotKept.{NotKept}
use Rattle.ilp_replies.specs.declared.answer.Receipt.{Receipt}
use Rattle.ilp_replies.specs.declared.rejects.ToldReject.{ToldReject}

-- what became of its Prepare, the octets that its sender is answered, and how many entries the keeper is to be handed before
pub record PlainBooked : Type 0 where
  pub receipt : Receipt
  pub octets : List ℕ
  pub behind : ℕ

abbrev pub booked : Receipt → List ℕ → ℕ → PlainBooked
booked receipt octets behind = record { receipt = receipt; octets = octets; behind = behind }

-- Before a Fulfill is told, the keeper is handed a journal of as many entries; before a Reject it is handed nothing. By the Reject that
-- the sender is told, if it is one.
abbrev pub behind_of : Option ToldReject → ℕ → ℕ
behind_of None entries = entries
behind_of (Some r) entries = 0

-- how many entries a journal had that a keeper was handed, and what the keeper said of it
pub record PlainHandedJournal : Type 0 where
  pub entries : ℕ
  pub said : Result (Unit {0}) NotKept

abbrev pub handed_journal : ℕ → Result (Unit {0}) NotKept → PlainHandedJournal
handed_journal entries said = record { entries = entries; said = said }

-- none was handed
abbrev pub no_journal : PlainHandedJournal
no_journal = handed_journal 0 (Ok tt)

-- ---- a keeper for all workers

-- A keeper of its own is shown the journal of some book of the desk, which goes on from what it had seen, and is handed that. What
-- is known then is how many entries it had, and what the keeper said.
pub record IsHandedFor (desk : PlainDesk) (seen : Entries) (told : Option (List ToKeeper)) (handed : PlainHandedJournal) (seen' : Entries) (told' : Option (List ToKeeper)) : Type 0 where
  pub journal : Entries
  pub shown : IsSeenSince desk seen journal
  pub entries : handed.entries ≡ length journal
  pub kept : IsHanded journal handed.said told told' seen'
