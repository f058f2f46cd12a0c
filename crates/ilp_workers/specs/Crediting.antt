-- What becomes of a settlement from a peer, which the peer's engine tells a worker of, and of a correction of its balance.
use Rattle.std.specs.Prelude.{◌≡◌, ◌≢◌, ℕ, ◌+◌, ◌<◌, ◌≤◌, ℤ, ◌⊎◌, List, [], ◌∷◌, ◌++◌, length, Option, Some, None, option_and_then, slice_get, Result, Ok, Err, IfOk, if◌then◌else◌}
use Rattle.ilp_assets.specs.Quote.{most}
use Rattle.ilp_accounts.specs.Configuration.{Configuration}
use Rattle.ilp_journal.specs.declared.entry.Entry.{Entry}
use Rattle.ilp_journal.specs.declared.entry.What.{What}
use Rattle.ilp_journal.specs.declared.entry.What.TheVariants as what
use Rattle.ilp_journal.specs.declared.entry.Credited.{Credited}
use Rattle.ilp_journal.specs.Journal.{Entries}
use Rattle.ilp_journal.specs.Credits.{lowers}
use Rattle.ilp_book.specs.declared.calls.Kept.{Kept}
use Rattle.ilp_book.specs.declared.fault.CreditFault.{CreditFault}
use Rattle.ilp_book.specs.declared.fault.CreditFault.TheVariants as credit_fault
use Rattle.ilp_book.specs.Book.{by}
use Rattle.ilp_book.specs.SettleStep.{Payment, amount_of, credit_growth, credit_step}
use Rattle.ilp_desk.specs.declared.record.Record.{Record}
use Rattle.ilp_desk.specs.declared.record.Recorded.TheVariants as recorded
use Rattle.ilp_desk.specs.Desk.{PlainDesk}
use Rattle.ilp_desk.specs.Portion.{Portion, portion}
use Rattle.ilp_desk.specs.Session.{IsShownAt}
use Rattle.ilp_link_traits.specs.Links.{Tells}
use Rattle.ilp_keeping.specs.declared.keeper.NotKept.{NotKept}
use Rattle.ilp_keeping.specs.Keeping as keeper
use Rattle.ilp_workers.specs.declared.crediting.NotCredited.{NotCredited}
use Rattle.ilp_workers.specs.declared.crediting.NotCredited.TheVariants as not_credited
use Rattle.ilp_workers.specs.Worker.{PlainWorker, Seat, seat_of, IsKept}

-- ---- booking

-- A book of the desk was asked at a moment to credit the payment, and this was its reply. Before it the worker had seen a beginning of
-- that book's journal, and then all of it.
abbrev pub IsCreditedAt : PlainDesk → Payment → ℤ → Entries → Entries → Portion → Portion → Result Kept CreditFault → Type 0
IsCreditedAt desk p now seen seen' before after reply =
    IsShownAt desk (λ book. credit_step book (by before.actor now) p (credit_growth reply)) seen seen' before after reply

-- what the books say of a payment that was credited
abbrev pub record_of_credit : Payment → Kept → Record
record_of_credit p kept = record { number = kept.number; what = recorded.Credited p.peer kept.amount (lowers p.kind) }

-- what is kept of a reply: the record of a credit that it made, and of no other
abbrev pub kept_of : Payment → Result Kept CreditFault → List Record
kept_of p (Ok kept) = if kept.fresh then record_of_credit p kept ∷ [] else []
kept_of p (Err fault) = []

-- the credit of an earlier period that an entry brings forward
abbrev pub as_known : What → Option Credited
as_known (what.Known c) = Some c
as_known _ = None

abbrev pub known_at : Entries → ℕ → Option Credited
known_at j n = option_and_then (λ (e : Entry). as_known e.what) (slice_get j n)

-- In a period above 0 a credit of an earlier one was brought forward under the payment's key, of the same quantity and kind, and what is told
-- is the amount that was credited then.
pub record IsKnownCredit (period : ℕ) (j : Entries) (p : Payment) (told : Kept) : Type 0 where
  pub later : 0 < period
  pub credit : Credited
  pub known : known_at j told.number ≡ Some credit
  pub peer : credit.peer ≡ p.peer
  pub key : credit.key ≡ p.key
  pub named : credit.named ≡ p.quantity.amount
  pub scale : credit.scale ≡ p.quantity.scale
  pub kind : credit.kind ≡ p.kind
  pub amount : told.amount ≡ credit.credited

-- what is told is what the payment comes to, or what was credited in an earlier period
abbrev pub TellsAmount : Configuration → ℕ → Entries → Payment → Kept → Type 0
TellsAmount C period j p told = (told.amount ≡ amount_of C p) ⊎ IsKnownCredit period j p told

-- A payment that is not too large is told to a book, at a moment that the clock gives. Share and records are raised by the credit
-- that this made, if it made one; the amount of the reply is what the payment comes to, also where a credit of this period is kept.
pub record IsCredited (desk : PlainDesk) (p : Payment) (before after : Seat) (reply : Result Kept CreditFault) : Type 0 where
  pub fits : amount_of desk.config p ≤ most
  pub now : ℤ
  pub asked : Tells before.moments now after.moments
  pub booked : IsCreditedAt desk p now before.seen after.seen before.share after.share reply
  pub raised : after.share ≡ portion before.share.actor (before.share.entries + length (kept_of p reply))
  pub records : after.records ≡ before.records ++ kept_of p reply
  pub amount : IfOk reply (TellsAmount desk.config desk.period desk.opening p)
  pub allowed : reply ≢ Err credit_fault.TooLarge
  pub unkept : after.kept ≡ before.kept

-- why no book is asked: the payment is too large, or there is no room for the record
abbrev pub IsWhyUnasked : Configuration → Payment → Result Kept CreditFault → Type 0
IsWhyUnasked C p reply =
    ((reply ≡ Err credit_fault.TooLarge) × (most < amount_of C p))
    ⊎ ((reply ≡ Err credit_fault.Memory) × (amount_of C p ≤ most))

-- No book is asked, and all is as it was.
pub record IsUncredited (desk : PlainDesk) (p : Payment) (before after : Seat) (reply : Result Kept CreditFault) : Type 0 where
  pub why : IsWhyUnasked desk.config p reply
  pub same : after ≡ before

-- one of the two
abbrev pub CreditsAt : PlainDesk → Payment → Seat → Seat → Result Kept CreditFault → Type 0
CreditsAt desk p before after reply = IsUncredited desk p before after reply ⊎ IsCredited desk p before after reply

-- ---- answering

-- what is answered of a credit, by what the keeper says of the journal that has it
abbrev pub answer_kept : Kept → Result (Unit {0}) NotKept → Result Kept NotCredited
answer_kept credit (Ok x) = Ok credit
answer_kept credit (Err fault) = Err (not_credited.NotKept credit)

-- Of a credit, a new one or one from before, the keeper is handed the journal that has it, and what it says is answered; the credit
-- stays either way. A refusal is answered as it is, and nothing is kept.
abbrev pub IsAnswered : Result Kept CreditFault → Seat → Seat → Result Kept NotCredited → Type 0
IsAnswered (Ok credit) before after answer = (said : Result (Unit {0}) NotKept) × IsKept said before after × (answer ≡ answer_kept credit said)
IsAnswered (Err fault) before after answer = (answer ≡ Err (not_credited.Refused fault)) × (after ≡ before)

-- The payment is booked or refused, and then kept and answered.
pub record IsPaid (desk : PlainDesk) (p : Payment) (before after : Seat) (answer : Result Kept NotCredited) : Type 0 where
  pub reply : Result Kept CreditFault
  pub left : Seat
  pub told : CreditsAt desk p before left reply
  pub answered : IsAnswered reply left after answer

-- What a worker makes of a payment. No peer and no engine is handed anything.
pub record Credits (desk : PlainDesk) (p : Payment) (before after : PlainWorker) (answer : Result Kept NotCredited) : Type 0 where
  pub paid : IsPaid desk p (seat_of before) (seat_of after) answer
  pub links : (after.sent ≡ before.sent) × (after.engine ≡ before.engine)
  pub reply_stays : after.reply ≡ before.reply

-- ---- in two halves

-- a credit that is booked, now or under its key from before, and how many entries the keeper is to be handed before it is told
pub record PlainBookedCredit : Type 0 where
  pub credit : Kept
  pub behind : ℕ

abbrev pub booked_credit : Kept → ℕ → PlainBookedCredit
booked_credit credit behind = record { credit = credit; behind = behind }

-- what a book replied
abbrev pub reply_of_half : Result PlainBookedCredit CreditFault → Result Kept CreditFault
reply_of_half (Ok b) = Ok b.credit
reply_of_half (Err fault) = Err fault

-- A credit is told behind all that the worker has seen.
abbrev pub IsBehindAll : Entries → PlainBookedCredit → Type 0
IsBehindAll seen b = b.behind ≡ length seen

-- The first half of a payment: it is booked or refused. No peer, no engine and no keeper is handed anything.
pub record BooksCredit (desk : PlainDesk) (p : Payment) (before after : PlainWorker) (half : Result PlainBookedCredit CreditFault) : Type 0 where
  pub told : CreditsAt desk p (seat_of before) (seat_of after) (reply_of_half half)
  pub behind : IfOk half (IsBehindAll after.seen)
  pub links : (after.sent ≡ before.sent) × (after.engine ≡ before.engine)
  pub reply_stays : after.reply ≡ before.reply
