-- The two halves of a turn: what a settler does before the peer's engine is asked for a settlement, and what after. Between the two
-- others may begin and finish.
use Rattle.std.specs.Prelude.{◌≡◌, ℕ, ◌+◌, true, false, Option, Some, None, Result, Ok, Err, ok_or, ◌⊎◌}
use Rattle.ilp_journal.specs.Journal.{Entries}
use Rattle.ilp_book.specs.declared.calls.Asked.{Asked}
use Rattle.ilp_book.specs.declared.fault.AskFault.{AskFault}
use Rattle.ilp_book.specs.declared.fault.AskFault.TheVariants as ask_fault
use Rattle.ilp_desk.specs.Desk.{PlainDesk}
use Rattle.ilp_desk.specs.Portion.{holding}
use Rattle.ilp_keeping.specs.declared.keeper.NotKept.{NotKept}
use Rattle.ilp_keeping.specs.Keeping.{IsHanded}
use Rattle.ilp_link_traits.specs.declared.links.EngineReply.{EngineReply}
use Rattle.ilp_link_traits.specs.Links.{Tells, ToEngine, settled, settling}
use Rattle.ilp_settler.specs.declared.turn.Turn.{Turn}
use Rattle.ilp_settler.specs.declared.turn.Turn.TheVariants.{Idle, Withheld, Unwritten}
use Rattle.ilp_settler.specs.declared.asking.BegunTurn.{BegunTurn}
use Rattle.ilp_settler.specs.declared.asking.BegunTurn.TheVariants.{NeedsAccount, Asks, Over}
use Rattle.ilp_settler.specs.Asking.{PlainAsking, asking_in, settlement_of}
use Rattle.ilp_settler.specs.Settler.{PlainSettler, knows_account, last_tried, with_tried, IsAsking, IsChoosing, verdict_by, ClosesBy}

-- ---- what is to be settled

-- What is to be settled, by what a book replied that was asked for a settlement: just that, or where it refused one for another cause
-- than memory what is open.
abbrev pub Finds : PlainDesk → ℕ → Option ℕ → Entries → Entries → Result Asked AskFault → Result Asked AskFault → Type 0
Finds desk peer tried seen seen' (Ok a) sought = (sought ≡ Ok a) × (seen' ≡ seen)
Finds desk peer tried seen seen' (Err ask_fault.Memory) sought = (sought ≡ Err ask_fault.Memory) × (seen' ≡ seen)
Finds desk peer tried seen seen' (Err fault) sought = (found : Option Asked) × IsChoosing desk peer tried seen seen' found × (sought ≡ ok_or found fault)

-- A book is asked for a settlement, and where it has to be, looked at for one that is open. No one else is told of it.
pub record IsSeeking (desk : PlainDesk) (peer : ℕ) (before after : PlainSettler) (sought : Result Asked AskFault) : Type 0 where
  pub reply : Result Asked AskFault
  pub seen : Entries
  pub asked : IsAsking desk peer before.moments after.moments before.seen seen before.share after.share reply
  pub finds : Finds desk peer (last_tried before.tried peer) seen after.seen reply sought
  pub others : after ≡ record before { share = after.share; moments = after.moments; seen = after.seen }

-- ---- what is given out

-- The keeper is handed the journal that was seen, and says that it is kept. The peer's engine is to be asked for the settlement, which
-- counts as tried and is not finished.
pub record IsGivenOut (desk : PlainDesk) (peer : ℕ) (before after : PlainSettler) (a : Asked) (p : PlainAsking) : Type 0 where
  pub kept : IsHanded before.seen (Ok tt) before.kept after.kept after.seen
  pub asks : p ≡ asking_in desk peer a
  pub tried : after.tried ≡ with_tried before.tried peer a.number
  pub waits : after.pending ≡ before.pending + 1
  pub others : after ≡ record before { tried = after.tried; seen = after.seen; kept = after.kept; pending = after.pending }

-- The keeper is handed the journal that was seen, and says that it is not kept. No engine is to be asked.
pub record IsHeldBack (before after : PlainSettler) (a : Asked) (turn : Turn) : Type 0 where
  pub why : NotKept
  pub kept : IsHanded before.seen (Err why) before.kept after.kept after.seen
  pub turn_is : turn ≡ Unwritten a.number a.amount
  pub others : after ≡ record before { seen = after.seen; kept = after.kept }

-- why no engine is to be asked: what is to be settled is not kept, or nothing is to be settled
abbrev pub IsOver : PlainSettler → PlainSettler → Turn → Result Asked AskFault → Type 0
IsOver before after turn (Ok a) = IsHeldBack before after a turn
IsOver before after turn (Err ask_fault.Memory) = ⊥
IsOver before after turn (Err fault) = (turn ≡ Idle fault) × (after ≡ before)

-- a settlement that is kept is given out, and else the turn is over
abbrev pub GivesOut : {A : Type 0} → PlainDesk → ℕ → PlainSettler → PlainSettler → Asked → BegunTurn A → Type 0
GivesOut desk peer before after a NeedsAccount = ⊥
GivesOut desk peer before after a (Asks p) = IsGivenOut desk peer before after a p
GivesOut desk peer before after a (Over turn) = IsHeldBack before after a turn

-- ---- the first half

-- The engine is to be asked for the settlement that was found, whose entry is kept.
pub record StartsAsking (desk : PlainDesk) (peer : ℕ) (before after : PlainSettler) (p : PlainAsking) : Type 0 where
  pub between : PlainSettler
  pub settlement : Asked
  pub sought : IsSeeking desk peer before between (Ok settlement)
  pub given : IsGivenOut desk peer between after settlement p

-- The turn is over without that.
pub record EndsUnasked (desk : PlainDesk) (peer : ℕ) (before after : PlainSettler) (turn : Turn) : Type 0 where
  pub between : PlainSettler
  pub found : Result Asked AskFault
  pub sought : IsSeeking desk peer before between found
  pub over : IsOver between after turn found

-- Memory is denied: to the settler, which did nothing, or to the book.
abbrev pub LacksMemory : PlainDesk → ℕ → PlainSettler → PlainSettler → Type 0
LacksMemory desk peer before after = (after ≡ before) ⊎ IsSeeking desk peer before after (Err ask_fault.Memory)

-- what the first half of a turn is, by what it answers
abbrev pub BeginsTurn : {A E : Type 0} → PlainDesk → ℕ → PlainSettler → PlainSettler → Result (BegunTurn A) E → Type 0
BeginsTurn desk peer before after (Ok NeedsAccount) = (knows_account before.accounts peer ≡ false) × (after ≡ before)
BeginsTurn desk peer before after (Ok (Asks p)) = (knows_account before.accounts peer ≡ true) × StartsAsking desk peer before after p
BeginsTurn desk peer before after (Ok (Over turn)) = (knows_account before.accounts peer ≡ true) × EndsUnasked desk peer before after turn
BeginsTurn desk peer before after (Err e) = (knows_account before.accounts peer ≡ true) × LacksMemory desk peer before after

-- ---- the first half, where nothing new is to be asked for

-- A book is looked at for a settlement that is open. Nothing is booked, no moment is asked for, and no one else is told of it.
pub record IsLooking (desk : PlainDesk) (peer : ℕ) (before after : PlainSettler) (found : Option Asked) : Type 0 where
  pub chosen : IsChoosing desk peer (last_tried before.tried peer) before.seen after.seen found
  pub others : after ≡ record before { seen = after.seen }

-- a settlement that was found is given out as one that is new, and where none was the turn is over
abbrev pub GivesOutFound : {A : Type 0} → PlainDesk → ℕ → PlainSettler → PlainSettler → BegunTurn A → Option Asked → Type 0
GivesOutFound desk peer before after begun None = (begun ≡ Over Withheld) × (after ≡ before)
GivesOutFound desk peer before after begun (Some a) = GivesOut desk peer before after a begun

-- What is open is looked for, and what was found is given out.
pub record StartsOpen {A : Type 0} (desk : PlainDesk) (peer : ℕ) (before after : PlainSettler) (begun : BegunTurn A) : Type 0 where
  pub between : PlainSettler
  pub found : Option Asked
  pub looked : IsLooking desk peer before between found
  pub given : GivesOutFound desk peer between after begun found

-- what the first half of a turn is in which nothing new is asked for, by what it answers
abbrev pub TakesUpOpen : {A E : Type 0} → PlainDesk → ℕ → PlainSettler → PlainSettler → Result (BegunTurn A) E → Type 0
TakesUpOpen desk peer before after (Ok NeedsAccount) = (knows_account before.accounts peer ≡ false) × (after ≡ before)
TakesUpOpen {A} desk peer before after (Ok (Asks p)) = (knows_account before.accounts peer ≡ true) × StartsOpen {A = A} desk peer before after (Asks p)
TakesUpOpen {A} desk peer before after (Ok (Over turn)) = (knows_account before.accounts peer ≡ true) × StartsOpen {A = A} desk peer before after (Over turn)
TakesUpOpen desk peer before after (Err e) = (knows_account before.accounts peer ≡ true) × (after ≡ before)

-- how many settlements more are pending
abbrev pub pending_more : {A E : Type 0} → Result (BegunTurn A) E → ℕ
pending_more (Ok NeedsAccount) = 0
pending_more (Ok (Asks p)) = 1
pending_more (Ok (Over turn)) = 0
pending_more (Err e) = 0

-- ---- what the engine is asked

-- what a peer's engine is handed for what it is to be asked, with what it said
abbrev pub asking_told : PlainAsking → EngineReply → ToEngine
asking_told p said = settled (settling p.peer p.key p.amount p.scale said)

-- The peer's engine is asked for the settlement, and says this. All else stays.
pub record IsEngineAsked (p : PlainAsking) (said : EngineReply) (before after : PlainSettler) : Type 0 where
  pub handed : Tells before.engine (asking_told p said) after.engine
  pub others : after ≡ record before { engine = after.engine }

-- ---- the second half

-- A book is told what the engine said of the settlement, if that is a verdict, and the settlement is finished.
pub record FinishesTurn (desk : PlainDesk) (p : PlainAsking) (said : EngineReply) (before after : PlainSettler) (turn : Turn) : Type 0 where
  pub closed : ClosesBy desk p.peer (settlement_of p) said (verdict_by said) before.moments after.moments (holding before.share before.records) (holding after.share after.records) turn
  pub finished : after.pending + 1 ≡ before.pending
  pub others : after ≡ record before { share = after.share; records = after.records; moments = after.moments; pending = after.pending }
