-- A settler as contracts see it, and what a turn of it does.
use Rattle.std.specs.Prelude.{◌≡◌, ℕ, ◌+◌, ℤ, Bool, true, false, List, [], ◌∷◌, ◌++◌, Option, Some, None, Result, Ok, Err, IsErr, ◌⊎◌, slice_get, slice_set, unwrap_or, replicate}
use Rattle.ilp_accounts.specs.Limits.{most_peers}
use Rattle.ilp_journal.specs.Journal.{Entries}
use Rattle.ilp_book.specs.declared.calls.Asked.{Asked}
use Rattle.ilp_book.specs.declared.fault.AskFault.{AskFault}
use Rattle.ilp_book.specs.declared.fault.AskFault.TheVariants as ask_fault
use Rattle.ilp_book.specs.declared.fault.NotOpen.{NotOpen}
use Rattle.ilp_book.specs.Book.{by}
use Rattle.ilp_book.specs.Configured.{scale_at}
use Rattle.ilp_settlement.specs.declared.verdict.EngineVerdict.{EngineVerdict}
use Rattle.ilp_settlement.specs.declared.verdict.EngineVerdict.TheVariants as verdicts
use Rattle.ilp_book.specs.SettleStep.{ask_growth, ask_step, close_step}
use Rattle.ilp_desk.specs.declared.record.Record.{Record}
use Rattle.ilp_desk.specs.declared.record.Recorded.TheVariants as recorded
use Rattle.ilp_desk.specs.Desk.{PlainDesk, settlement_key_in}
use Rattle.ilp_desk.specs.Portion.{Portion, portion, Holding, holding}
use Rattle.ilp_desk.specs.Session.{IsReplyAt, IsShownAt, IsShownLook}
use Rattle.ilp_keeping.specs.declared.keeper.NotKept.{NotKept}
use Rattle.ilp_keeping.specs.Keeping.{ToKeeper, IsHanded}
use Rattle.ilp_link_traits.specs.declared.links.EngineReply.{EngineReply}
use Rattle.ilp_link_traits.specs.declared.links.EngineReply.TheVariants.{Accepted, Refused, Unknown}
use Rattle.ilp_settler.specs.declared.turn.Turn.{Turn}
use Rattle.ilp_settler.specs.declared.turn.Turn.TheVariants.{NoAccount, Idle, Withheld, Unwritten, Kept, Closed}
use Rattle.ilp_link_traits.specs.Links.{Tells, ToEngine, asked, asking, settled, settling}

-- its share, the records of what it booked, what its links tell (the moments of its clock, and what engines were handed), and,
-- by the peers' places, whose engines are known to have the account, and which settlement the engine was asked for last; what it has
-- seen of the journal, and what its keeper tells; and how many settlements it gave out that are not finished
pub record PlainSettler : Type 0 where
  pub share : Portion
  pub records : List Record
  pub moments : Option (List ℤ)
  pub engine : Option (List ToEngine)
  pub accounts : List Bool
  pub tried : List (Option ℕ)
  pub seen : Entries
  pub kept : Option (List ToKeeper)
  pub pending : ℕ

abbrev pub settler : Portion → List Record → Option (List ℤ) → Option (List ToEngine) → List Bool → List (Option ℕ) → Entries → Option (List ToKeeper) → ℕ → PlainSettler
settler share records moments engine accounts tried seen kept pending =
    record { share = share; records = records; moments = moments; engine = engine; accounts = accounts; tried = tried; seen = seen; kept = kept; pending = pending }

-- ---- accounts

-- no account is known yet
abbrev pub no_accounts : List Bool
no_accounts = replicate most_peers false

-- whether the peer's engine is known to have the account
abbrev pub knows_account : List Bool → ℕ → Bool
knows_account accounts peer = unwrap_or (slice_get accounts peer) false

-- the accounts, with one more that is known
abbrev pub with_account : List Bool → ℕ → List Bool
with_account accounts peer = slice_set accounts peer true

-- what the peer's engine is handed for an account: the question, with what it said
abbrev pub account_told : ℕ → Bool → ToEngine
account_told peer said = asked (asking peer said)

-- The peer's engine has the account. Where that was known, it was not asked; else it was, once, and said so.
abbrev pub HasAccount : Bool → ℕ → Option (List ToEngine) → Option (List ToEngine) → Type 0
HasAccount true peer told told' = told' ≡ told
HasAccount false peer told told' = Tells told (account_told peer true) told'

-- ---- settlements that were tried

-- none was tried yet
abbrev pub none_tried : List (Option ℕ)
none_tried = replicate most_peers None

-- the settlement that the peer's engine was asked for last
abbrev pub last_tried : List (Option ℕ) → ℕ → Option ℕ
last_tried tried peer = unwrap_or (slice_get tried peer) None

-- the same, once it was asked for the settlement n
abbrev pub with_tried : List (Option ℕ) → ℕ → ℕ → List (Option ℕ)
with_tried tried peer n = slice_set tried peer (Some n)

-- ---- keys

-- the most octets of the key of a settlement: as many as one of an earlier period may have
abbrev pub longest_key : ℕ
longest_key = 128

-- ---- asking a book

-- A book of the desk was asked at a moment for a settlement to the peer, and this was its reply. What was seen of the journal begins
-- that book's, and then the one that it left was seen.
abbrev pub IsAskedAt : PlainDesk → ℕ → ℤ → Entries → Entries → Portion → Portion → Result Asked AskFault → Type 0
IsAskedAt desk peer now seen seen' before after reply =
    IsShownAt desk (λ book. ask_step book (by before.actor now) peer (ask_growth reply)) seen seen' before after reply

-- how many entries a reply booked
abbrev pub asks_of : Result Asked AskFault → ℕ
asks_of (Ok a) = 1
asks_of (Err fault) = 0

-- A book is asked at a moment that the clock gives.
pub record IsAsking (desk : PlainDesk) (peer : ℕ) (moments moments' : Option (List ℤ)) (seen seen' : Entries) (before after : Portion) (reply : Result Asked AskFault) : Type 0 where
  pub now : ℤ
  pub asked : Tells moments now moments'
  pub booked : IsAskedAt desk peer now seen seen' before after reply
  pub raised : after ≡ portion before.actor (before.entries + asks_of reply)

-- ---- choosing an open settlement

-- The open settlement behind the one that was tried last is found, else the first of all, in one look at the book.
abbrev pub IsChoosing : PlainDesk → ℕ → Option ℕ → Entries → Entries → Option Asked → Type 0
IsChoosing desk peer tried seen seen' found = IsShownLook desk peer tried seen seen' found

-- ---- asking the engine

-- what the peer's engine is handed for a settlement, and what it said of it
abbrev pub settlement_told : PlainDesk → ℕ → Asked → EngineReply → ToEngine
settlement_told desk peer a said = settled (settling peer (settlement_key_in desk a.number) a.amount (scale_at desk.config peer) said)

-- the verdict on a settlement by what the engine said, if that is one
abbrev pub verdict_by : EngineReply → Option EngineVerdict
verdict_by Accepted = Some verdicts.Accepted
verdict_by (Refused status) = Some verdicts.Refused
verdict_by (Unknown status) = None

-- ---- closing

-- A book of the desk was told at a moment the engine's verdict on a settlement, and this was its reply.
abbrev pub IsClosedAt : PlainDesk → ℕ → EngineVerdict → ℤ → Portion → Portion → Result ℕ NotOpen → Type 0
IsClosedAt desk number verdict now before after reply =
    IsReplyAt desk (λ book. close_step book (by before.actor now) number verdict) before after reply

-- what the books say of a settlement that was closed by this entry
abbrev pub record_of_close : ℕ → Asked → EngineVerdict → ℕ → Record
record_of_close peer a verdict entry = record { number = entry; what = recorded.Closed a.number peer a.amount verdict }

-- how many entries a reply booked
abbrev pub closings_of : Result ℕ NotOpen → ℕ
closings_of (Ok entry) = 1
closings_of (Err fault) = 0

-- what is kept of a closing
abbrev pub kept_of_close : ℕ → Asked → EngineVerdict → Result ℕ NotOpen → List Record
kept_of_close peer a verdict (Ok entry) = record_of_close peer a verdict entry ∷ []
kept_of_close peer a verdict (Err fault) = []

-- what a turn comes to by a closing: where nothing was open any more, the settlement stays as it is
abbrev pub turn_of_close : Asked → EngineReply → Result ℕ NotOpen → Turn
turn_of_close a said (Ok entry) = Closed a.number a.amount said
turn_of_close a said (Err fault) = Kept a.number a.amount said

-- What the engine said is told to a book, at a moment that the clock gives, and share and records are raised by that.
pub record IsClosing (desk : PlainDesk) (peer : ℕ) (a : Asked) (said : EngineReply) (verdict : EngineVerdict) (moments moments' : Option (List ℤ)) (before after : Holding) (turn : Turn) : Type 0 where
  pub later : ℤ
  pub reply : Result ℕ NotOpen
  pub asked : Tells moments later moments'
  pub booked : IsClosedAt desk a.number verdict later before.share after.share reply
  pub raised : after.share ≡ portion before.share.actor (before.share.entries + closings_of reply)
  pub records : after.records ≡ before.records ++ kept_of_close peer a verdict reply
  pub turn_is : turn ≡ turn_of_close a said reply

-- Nothing was said that a book is told.
pub record IsLeftOpen (a : Asked) (said : EngineReply) (moments moments' : Option (List ℤ)) (before after : Holding) (turn : Turn) : Type 0 where
  pub asked : moments' ≡ moments
  pub same : after ≡ before
  pub turn_is : turn ≡ Kept a.number a.amount said

abbrev pub ClosesBy : PlainDesk → ℕ → Asked → EngineReply → Option EngineVerdict → Option (List ℤ) → Option (List ℤ) → Holding → Holding → Turn → Type 0
ClosesBy desk peer a said None moments moments' before after turn = IsLeftOpen a said moments moments' before after turn
ClosesBy desk peer a said (Some verdict) moments moments' before after turn = IsClosing desk peer a said verdict moments moments' before after turn

-- ---- turns

-- The peer's engine is not known to have the account. It was asked, once, and said that it has none. Nothing else was done.
pub record IsWithoutAccount (peer : ℕ) (before after : PlainSettler) : Type 0 where
  pub unknown : knows_account before.accounts peer ≡ false
  pub denied : Tells before.engine (account_told peer false) after.engine
  pub same : after ≡ record before { engine = after.engine }

-- The engine has the account, and there is no room for a record. No book is asked, and no engine for a settlement.
pub record IsWithoutRoom (peer : ℕ) (before after : PlainSettler) : Type 0 where
  pub account : HasAccount (knows_account before.accounts peer) peer before.engine after.engine
  pub same : after ≡ record before { engine = after.engine; accounts = with_account before.accounts peer }

-- No engine is asked for a settlement, and no keeper.
pub record IsIdle (before after : PlainSettler) (engine : Option (List ToEngine)) (share : Portion) (moments : Option (List ℤ)) (seen : Entries) : Type 0 where
  pub same : after ≡ settler share before.records moments engine after.accounts before.tried seen before.kept before.pending

-- The keeper is handed the journal that was seen, and says that it is kept. Then the peer's engine is asked for the settlement, once,
-- and a book is told what it said. Of that book nothing is known.
pub record IsSettling (desk : PlainDesk) (peer : ℕ) (before after : PlainSettler) (engine : Option (List ToEngine)) (a : Asked) (share : Portion) (moments : Option (List ℤ)) (seen : Entries) (told : Turn) : Type 0 where
  pub kept : IsHanded seen (Ok tt) before.kept after.kept after.seen
  pub said : EngineReply
  pub handed : Tells engine (settlement_told desk peer a said) after.engine
  pub closed : ClosesBy desk peer a said (verdict_by said) moments after.moments (holding share before.records) (holding after.share after.records) told
  pub tried : after.tried ≡ with_tried before.tried peer a.number

-- The keeper is handed the journal that was seen, and says that it is not kept. No engine is asked, and the settlement stays as it is.
pub record IsUnwritten (before after : PlainSettler) (engine : Option (List ToEngine)) (a : Asked) (share : Portion) (moments : Option (List ℤ)) (seen : Entries) (told : Turn) : Type 0 where
  pub why : NotKept
  pub kept : IsHanded seen (Err why) before.kept after.kept after.seen
  pub same : after ≡ settler share before.records moments engine after.accounts before.tried after.seen after.kept before.pending
  pub turn_is : told ≡ Unwritten a.number a.amount

-- a settlement is carried out: the engine is asked for it just where the journal that has it is kept
abbrev pub CarriesOut : PlainDesk → ℕ → PlainSettler → PlainSettler → Option (List ToEngine) → Asked → Portion → Option (List ℤ) → Entries → Turn → Type 0
CarriesOut desk peer before after engine a share moments seen told =
    IsSettling desk peer before after engine a share moments seen told ⊎ IsUnwritten before after engine a share moments seen told

-- an open settlement is taken up where one was found; else the turn tells why none was asked for
abbrev pub TakesUp : PlainDesk → ℕ → PlainSettler → PlainSettler → Option (List ToEngine) → AskFault → Portion → Option (List ℤ) → Entries → Turn → Option Asked → Type 0
TakesUp desk peer before after engine fault share moments seen told None = IsIdle before after engine share moments seen × (told ≡ Idle fault)
TakesUp desk peer before after engine fault share moments seen told (Some a) = CarriesOut desk peer before after engine a share moments seen told

-- A book refused a settlement, and was looked at for one that is open.
pub record IsTakingUp (desk : PlainDesk) (peer : ℕ) (before after : PlainSettler) (engine : Option (List ToEngine)) (fault : AskFault) (share : Portion) (moments : Option (List ℤ)) (seen : Entries) (told : Turn) : Type 0 where
  pub found : Option Asked
  pub looked : Entries
  pub chosen : IsChoosing desk peer (last_tried before.tried peer) seen looked found
  pub taken : TakesUp desk peer before after engine fault share moments looked told found

-- after a book was asked: by a new settlement, or by an open one, unless memory was denied
abbrev pub GoesOn : {E : Type 0} → PlainDesk → ℕ → PlainSettler → PlainSettler → Option (List ToEngine) → Portion → Option (List ℤ) → Entries → Result Turn E → Result Asked AskFault → Type 0
GoesOn desk peer before after engine share moments seen turn (Ok a) =
    (told : Turn) × CarriesOut desk peer before after engine a share moments seen told × (turn ≡ Ok told)
GoesOn desk peer before after engine share moments seen turn (Err ask_fault.Memory) = IsIdle before after engine share moments seen × IsErr turn
GoesOn desk peer before after engine share moments seen turn (Err fault) =
    (told : Turn) × IsTakingUp desk peer before after engine fault share moments seen told × (turn ≡ Ok told)

-- The engine has the account, which is kept. A book is asked for a settlement, and then the engine.
pub record IsTurn {E : Type 0} (desk : PlainDesk) (peer : ℕ) (before after : PlainSettler) (turn : Result Turn E) : Type 0 where
  pub engine : Option (List ToEngine)
  pub account : HasAccount (knows_account before.accounts peer) peer before.engine engine
  pub accounts : after.accounts ≡ with_account before.accounts peer
  pub reply : Result Asked AskFault
  pub share : Portion
  pub moments : Option (List ℤ)
  pub seen : Entries
  pub asked : IsAsking desk peer before.moments moments before.seen seen before.share share reply
  pub goes_on : GoesOn desk peer before after engine share moments seen turn reply

-- what a turn for a peer is, by what it answers: a book is asked for a settlement in each, so that none tells that nothing new was to be
-- asked for
abbrev pub Turns : {E : Type 0} → PlainDesk → ℕ → PlainSettler → PlainSettler → Result Turn E → Type 0
Turns {E} desk peer before after (Ok NoAccount) = IsWithoutAccount peer before after
Turns {E} desk peer before after (Ok Withheld) = ⊥
Turns {E} desk peer before after (Err e) = IsWithoutRoom peer before after ⊎ IsTurn {E = E} desk peer before after (Err e)
Turns {E} desk peer before after (Ok turn) = IsTurn {E = E} desk peer before after (Ok turn)
