-- Settlements from peers, which are credited, and to peers, which are asked for and closed. Refusals stand in their order.
use Rattle.std.specs.Prelude.{◌≡◌, ℕ, ◌≤◌, pos, ◌-ℤ◌, int_lt, true, false, not, ◌&&◌, ◌==◌, List, length, nat_lt, Option, Some, None, Result, Ok, Err, option_and_then, option_map, if◌then◌else◌}
use Rattle.std.specs.Option.{option_or}
use Rattle.ilp_order.specs.Refusals.{◌>>=◌, refuse_if, refuse_some, found_or}
use Rattle.ilp_assets.specs.Quote.{most}
use Rattle.ilp_settlement.specs.declared.quantity.Quantity.{Quantity}
use Rattle.ilp_settlement.specs.declared.verdict.EngineVerdict.{EngineVerdict}
use Rattle.ilp_settlement.specs.declared.verdict.EngineVerdict.TheVariants as engine
use Rattle.ilp_settlement.specs.Quantity.{credited_at}
use Rattle.ilp_accounts.specs.Configuration.{Configuration, peer_at}
use Rattle.ilp_journal.specs.declared.entry.What.{What}
use Rattle.ilp_journal.specs.declared.entry.What.TheVariants as what
use Rattle.ilp_journal.specs.declared.entry.Ask.{Ask}
use Rattle.ilp_journal.specs.declared.entry.Credited.{Credited}
use Rattle.ilp_journal.specs.declared.credit_kind.CreditKind.{CreditKind}
use Rattle.ilp_journal.specs.Journal.{Entries, closing_of, open_ask_at, open_asks, next_open_ask}
use Rattle.ilp_journal.specs.Balance.{balance}
use Rattle.ilp_book.specs.declared.calls.Kept.{Kept}
use Rattle.ilp_book.specs.declared.fault.CreditFault.{CreditFault}
use Rattle.ilp_book.specs.declared.fault.CreditFault.TheVariants as credit_fault
use Rattle.ilp_book.specs.declared.calls.Asked.{Asked}
use Rattle.ilp_book.specs.declared.fault.AskFault.{AskFault}
use Rattle.ilp_book.specs.declared.fault.AskFault.TheVariants as ask_fault
use Rattle.ilp_book.specs.declared.fault.NotOpen.{NotOpen}
use Rattle.ilp_rules.specs.Configured.{scale_at}
use Rattle.ilp_rules.specs.Book.{PlainBook, By, Growth, granted, denied, Made, says, books, extended, has_room}
use Rattle.ilp_journal.specs.Credits.{lowering, same_kind, credit_at, kept_at}
use Rattle.ilp_rules.specs.Lawful.{most_open_asks, due_amount}

-- ---- credits

-- the credit, or the correction, of a peer that is kept under a key, with its number
abbrev pub kept : Entries → ℕ → List ℕ → Option (ℕ × Credited)
kept j peer key = option_and_then (λ n. option_map (λ (c : Credited). (n, c)) (credit_at j n)) (kept_at j peer key)

-- what is answered where one is kept: the same again, or that it is another
abbrev pub credit_kept : Quantity → CreditKind → ℕ × Credited → Result Kept CreditFault
credit_kept q kind (n, c) =
    if (c.named == q.amount) && (c.scale == q.scale) && same_kind c.kind kind then Ok (record { number = n; amount = c.credited; fresh = false })
    else Err (credit_fault.KeyTaken n)

-- a settlement from a peer, or a correction of its balance, under its key
pub record Payment : Type 0 where
  pub peer : ℕ
  pub key : List ℕ
  pub quantity : Quantity
  pub kind : CreditKind

abbrev pub payment : ℕ → List ℕ → Quantity → CreditKind → Payment
payment peer key quantity kind = record { peer = peer; key = key; quantity = quantity; kind = kind }

-- what a payment moves the balance of its peer by
abbrev pub amount_of : Configuration → Payment → ℕ
amount_of C p = credited_at p.quantity (scale_at C p.peer)

-- the credit of a payment
abbrev pub credit_of : Configuration → Payment → Credited
credit_of C p = record { peer = p.peer; key = p.key; named = p.quantity.amount; scale = p.quantity.scale; credited = amount_of C p; kind = p.kind }

-- a new credit, if the book has room for it, and a correction leaves the balance at its least or above
abbrev pub credit_fitted : PlainBook → Credited → Result Credited (Result Kept CreditFault)
credit_fitted book c = do
  let owed = balance book.entries c.peer
  let least = (peer_at book.config c.peer).least
  _ ← refuse_if (not (has_room book 1)) (Err credit_fault.Full)
  _ ← refuse_if (int_lt (owed -ℤ pos (lowering c.kind c.credited)) least) (Err (credit_fault.BelowLeast owed least))
  Ok c

-- the new credit, if none is kept
abbrev pub credit_fresh : PlainBook → Payment → Option (ℕ × Credited) → Result Credited (Result Kept CreditFault)
credit_fresh book p (Some c) = Err (credit_kept p.quantity p.kind c)
credit_fresh book p None = credit_fitted book (credit_of book.config p)

-- the new credit, or the reply where none is made
unfoldable pub credit_checked : PlainBook → Payment → Result Credited (Result Kept CreditFault)
credit_checked book p = do
  _ ← refuse_if (nat_lt most (amount_of book.config p)) (Err credit_fault.TooLarge)
  credit_fresh book p (kept book.entries p.peer p.key)

-- whether memory was denied, by a reply
abbrev pub credit_growth : Result Kept CreditFault → Growth
credit_growth (Err credit_fault.Memory) = denied
credit_growth _ = granted

-- Want of memory comes last, and only where an entry would have been appended.
abbrev pub credit_booked : PlainBook → By → Growth → Result Credited (Result Kept CreditFault) → Made (Result Kept CreditFault)
credit_booked book caller growth (Err reply) = says reply
credit_booked book caller denied (Ok c) = says (Err credit_fault.Memory)
credit_booked book caller granted (Ok c) =
    books book caller (Ok (record { number = length book.entries; amount = c.credited; fresh = true })) (what.Credited c)

-- a settlement from a peer, or a correction of its balance, under a key that the journal keeps
unfoldable pub credit_step : PlainBook → By → Payment → Growth → Made (Result Kept CreditFault)
credit_step book caller p growth = credit_booked book caller growth (credit_checked book p)

-- ---- asks

-- the refusal where as many settlements to a peer are open as may be: it names the first of them
abbrev pub still_open : Entries → ℕ → Option AskFault
still_open j peer =
    if nat_lt (open_asks j peer) most_open_asks then None
    else option_map (λ (x : ℕ × Ask). ask_fault.StillOpen x.0 x.1.amount) (next_open_ask j peer None)

-- a settlement that is due, if the book has room for it
abbrev pub ask_fitted : PlainBook → Ask → Result Ask AskFault
ask_fitted book a = do
  _ ← refuse_if (not (has_room book 2)) ask_fault.Full
  Ok a

-- the settlement that is asked for, or the first refusal
unfoldable pub ask_checked : PlainBook → ℕ → Result Ask AskFault
ask_checked book peer = do
  let owed = balance book.entries peer
  _ ← refuse_some (still_open book.entries peer)
  amount ← found_or (due_amount owed (peer_at book.config peer).levels) (ask_fault.NotDue owed)
  ask_fitted book (record { peer = peer; amount = amount })

-- whether memory was denied, by a reply
abbrev pub ask_growth : Result Asked AskFault → Growth
ask_growth (Err ask_fault.Memory) = denied
ask_growth _ = granted

-- Want of memory comes last, and only where an entry would have been appended.
abbrev pub ask_booked : PlainBook → By → Growth → Result Ask AskFault → Made (Result Asked AskFault)
ask_booked book caller growth (Err fault) = says (Err fault)
ask_booked book caller denied (Ok a) = says (Err ask_fault.Memory)
ask_booked book caller granted (Ok a) =
    books book caller (Ok (record { number = length book.entries; amount = a.amount })) (what.Asked a)

-- a settlement to a peer
unfoldable pub ask_step : PlainBook → By → ℕ → Growth → Made (Result Asked AskFault)
ask_step book caller peer growth = ask_booked book caller growth (ask_checked book peer)

-- an open settlement, as it is told
abbrev pub told_ask : ℕ × Ask → Asked
told_ask (n, a) = record { number = n; amount = a.amount }

-- the open settlement to a peer that comes next: the one of least number behind that which was tried last, else the first of all
abbrev pub open_settlement : Entries → ℕ → Option ℕ → Option Asked
open_settlement j peer tried = option_map told_ask (option_or (next_open_ask j peer tried) (next_open_ask j peer None))

-- ---- closings

-- what is booked of an engine's verdict on the settlement n
abbrev pub closing_of_verdict : ℕ → EngineVerdict → What
closing_of_verdict n engine.Accepted = what.Confirmed n
closing_of_verdict n engine.Refused = what.Undone n

-- what a verdict on the settlement n makes, if that is open
abbrev pub close_booked : PlainBook → By → ℕ → EngineVerdict → Option Ask → Made (Result ℕ NotOpen)
close_booked book caller n verdict None = says (Err (record { closer = closing_of book.entries n }))
close_booked book caller n verdict (Some a) = books book caller (Ok (length book.entries)) (closing_of_verdict n verdict)

-- what became of the settlement n
unfoldable pub close_step : PlainBook → By → ℕ → EngineVerdict → Made (Result ℕ NotOpen)
close_step book caller n verdict = close_booked book caller n verdict (open_ask_at book.entries n)

-- ---- what stands for good

-- The settlement n is closed by the entry k for good: whatever is appended, each closing is told of that entry and appends nothing.
abbrev pub IsClosedBy : PlainBook → ℕ → ℕ → Type 0
IsClosedBy book n k = (more : Entries) (caller : By) (verdict : EngineVerdict)
    → close_step (extended book more) caller n verdict ≡ says (Err (record { closer = Some k }))

-- A peer's key is kept for good by a credit or a correction with its number: whatever is appended, each one of the peer under it
-- that isn't too large is answered by that one and appends nothing.
abbrev pub IsKeptBy : PlainBook → ℕ → List ℕ → ℕ × Credited → Type 0
IsKeptBy book peer key numbered = (more : Entries) (caller : By) (quantity : Quantity) (kind : CreditKind) (growth : Growth)
    → credited_at quantity (scale_at book.config peer) ≤ most
    → credit_step (extended book more) caller (payment peer key quantity kind) growth ≡ says (credit_kept quantity kind numbered)
