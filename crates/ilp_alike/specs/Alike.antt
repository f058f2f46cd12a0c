-- A book that was brought forward answers as the one that it came from would by the same configuration, as long as both have room.
-- Where it names an entry, that one names the same by its own number.
use Rattle.std.specs.Prelude.{◌≡◌, ◌⊎◌, ℕ, ◌+◌, ◌-◌, ◌≤◌, ℤ, ◌≤ℤ◌, List, length, map, All, Bool, true, false, ◌&&◌, nat_lt, Option, is_some, option_map, unwrap_or, Ok, Err, IsSome, if◌then◌else◌, ⊤, option_and_then}
use Rattle.std.specs.Option.{option_or}
use Rattle.std.specs.Str.{bytes_eq}
use Rattle.ilp_order.specs.Places.{first_from}
use Rattle.ilp_accounts.specs.Configuration.{Configuration}
use Rattle.ilp_journal.specs.declared.entry.Entry.{Entry}
use Rattle.ilp_journal.specs.declared.entry.What.{What}
use Rattle.ilp_journal.specs.declared.entry.What.TheVariants as what
use Rattle.ilp_journal.specs.Credits.{credit_at, kept_at}
use Rattle.ilp_journal.specs.declared.entry.Credited.{Credited}
use Rattle.ilp_journal.specs.Journal.{Entries, as_ask, ask_at, is_unclosed}
use Rattle.ilp_journal.specs.BroughtForward.{credited_to, next_place}
use Rattle.ilp_rules.specs.Book.{PlainBook, moment_at}
use Rattle.ilp_rules.specs.SettlementKeys.{settlement_key_at}
use Rattle.ilp_next_period.specs.NextPeriod.{next_book, places_by_name}
use Rattle.ilp_book.specs.declared.calls.Outcome.TheVariants as outcome
use Rattle.ilp_book.specs.declared.fault.HoldFault.TheVariants as hold_fault
use Rattle.ilp_book.specs.declared.fault.CreditFault.TheVariants as credit_fault
use Rattle.ilp_book.specs.declared.fault.AskFault.TheVariants as ask_fault
use Rattle.ilp_book.specs.Run.{Call, answer, close, CallReply, of_hold, of_answer, of_expire, of_credit, of_ask, of_close, Step, AreAllowed, replies_to, book_after}
use Rattle.ilp_book.specs.declared.calls.Asked.{Asked}

-- ---- the book that ends, by the next configuration

-- the place of a peer in the next configuration; one that is left out has the place behind all
abbrev pub place_there : Configuration → Configuration → ℕ → ℕ
place_there C next p = unwrap_or (next_place (places_by_name C next) p) (length next.peers)

-- what happened, with each peer at another place
abbrev pub moved : (ℕ → ℕ) → What → What
moved to (what.Hold h) = what.Hold (record h { from = to h.from; to = to h.to })
moved to (what.Fulfilled n preimage) = what.Fulfilled n preimage
moved to (what.Released n cause) = what.Released n cause
moved to (what.Credited c) = what.Credited (credited_to (to c.peer) c)
moved to (what.Asked a) = what.Asked (record a { peer = to a.peer })
moved to (what.Confirmed n) = what.Confirmed n
moved to (what.Undone n) = what.Undone n
moved to (what.Opened p b) = what.Opened (to p) b
moved to (what.Known c) = what.Known (credited_to (to c.peer) c)
moved to (what.Pending p amount key) = what.Pending (to p) amount key

-- The book, as if the next configuration were its own: with all of its entries, and as it is when it is carried over, so that
-- totals begin anew.
abbrev pub by_config : PlainBook → Configuration → PlainBook
by_config book next = record {
  config = next;
  period = book.period;
  base = length book.entries;
  entries = map (λ (e : Entry). record e { what = moved (place_there book.config next) e.what }) book.entries;
}

-- ---- numbers

-- the open settlement that has this key
abbrev pub open_under : PlainBook → List ℕ → Option ℕ
open_under book key =
    first_from (λ n (e : Entry). (is_some (as_ask e.what) && is_unclosed book.entries n) && bytes_eq (settlement_key_at book.config book.period book.entries n) key) 0 book.entries

-- what the entry n of a later book was brought forward from: the credit that is kept under its key, or the open settlement
abbrev pub brought_from : PlainBook → PlainBook → ℕ → Option ℕ
brought_from book later n =
    option_or (option_and_then (λ (c : Credited). kept_at book.entries c.peer c.key) (credit_at later.entries n))
    (open_under book (settlement_key_at later.config later.period later.entries n))

-- The number in one book of what has the number n in a later one: of a credit or a settlement by its key, and of what is booked by
-- further calls by its place behind all that stands there now.
abbrev pub number_before : PlainBook → PlainBook → ℕ → ℕ
number_before book later n =
    if nat_lt n (length later.entries) then unwrap_or (brought_from book later n) 0 else length book.entries + (n - length later.entries)

-- a call with other numbers
abbrev pub call_with : (ℕ → ℕ) → Call → Call
call_with number (answer n reply) = answer (number n) reply
call_with number (close n verdict) = close (number n) verdict
call_with number call = call

abbrev pub step_with : (ℕ → ℕ) → Step → Step
step_with number s = record s { call = call_with number s.call }

-- an open settlement with another number
abbrev pub asked_with : (ℕ → ℕ) → Asked → Asked
asked_with number asked = record asked { number = number asked.number }

-- a reply with other numbers
abbrev pub reply_with : (ℕ → ℕ) → CallReply → CallReply
reply_with number (of_hold (Ok held)) = of_hold (Ok (record held { number = number held.number }))
reply_with number (of_answer (Ok (outcome.Fulfilled n))) = of_answer (Ok (outcome.Fulfilled (number n)))
reply_with number (of_answer (Ok (outcome.Released n cause))) = of_answer (Ok (outcome.Released (number n) cause))
reply_with number (of_answer (Err over)) = of_answer (Err (record { closer = option_map number over.closer }))
reply_with number (of_expire taken) = of_expire (option_map number taken)
reply_with number (of_credit (Ok kept)) = of_credit (Ok (record kept { number = number kept.number }))
reply_with number (of_credit (Err (credit_fault.KeyTaken n))) = of_credit (Err (credit_fault.KeyTaken (number n)))
reply_with number (of_ask (Ok asked)) = of_ask (Ok (asked_with number asked))
reply_with number (of_ask (Err (ask_fault.StillOpen n amount))) = of_ask (Err (ask_fault.StillOpen (number n) amount))
reply_with number (of_close (Ok n)) = of_close (Ok (number n))
reply_with number (of_close (Err over)) = of_close (Err (record { closer = option_map number over.closer }))
reply_with number reply = reply

-- ---- the statement

-- whether a call is refused for want of room
abbrev pub is_full : CallReply → Bool
is_full (of_hold (Err hold_fault.Full)) = true
is_full (of_credit (Err credit_fault.Full)) = true
is_full (of_ask (Err ask_fault.Full)) = true
is_full reply = false

-- a number is that of a settlement that the book has, or comes behind all that it has
abbrev pub MayBeNamed : PlainBook → ℕ → Type 0
MayBeNamed book n = IsSome (ask_at book.entries n) ⊎ (length book.entries ≤ n)

-- a call names a settlement that the book has, or what is booked by further calls
abbrev pub NamesKnown : PlainBook → Call → Type 0
NamesKnown book (answer n reply) = length book.entries ≤ n
NamesKnown book (close n verdict) = MayBeNamed book n
NamesKnown book call = ⊤

-- calls of the book that was brought forward, which come when the books of the one before are closed
pub record AreCalls (book : PlainBook) (next : Configuration) (now : ℤ) (steps : List Step) : Type 0 where
  pub allowed : AreAllowed next steps
  pub named : All (λ (s : Step). NamesKnown (next_book book next now) s.call) steps
  pub later : All (λ (s : Step). moment_at book.entries now ≤ℤ s.caller.now) steps

-- there is room for all that they would book
abbrev pub HasRoomForAll : PlainBook → List Step → Type 0
HasRoomForAll book steps = All (λ (r : CallReply). is_full r ≡ false) (replies_to book steps)

-- the number in the book that ends of what has another in the one that was brought forward
abbrev pub before_of : PlainBook → Configuration → ℤ → ℕ → ℕ
before_of book next now = number_before (by_config book next) (next_book book next now)

-- the same calls of the book that ends
abbrev pub calls_before : PlainBook → Configuration → ℤ → List Step → List Step
calls_before book next now steps = map (step_with (before_of book next now)) steps

-- neither book refuses one for want of room
abbrev pub BothHaveRoom : PlainBook → Configuration → ℤ → List Step → Type 0
BothHaveRoom book next now steps = HasRoomForAll (next_book book next now) steps × HasRoomForAll (by_config book next) (calls_before book next now steps)

-- Whatever calls come, both books give the same answers: where the later one names an entry, the one before names the same.
abbrev pub AnswersAlike : PlainBook → Configuration → ℤ → Type 0
AnswersAlike book next now =
    (steps : List Step) → AreCalls book next now steps → BothHaveRoom book next now steps
    → map (reply_with (before_of book next now)) (replies_to (next_book book next now) steps) ≡ replies_to (by_config book next) (calls_before book next now steps)

-- the entries of both books after the calls
abbrev pub entries_later : PlainBook → Configuration → ℤ → List Step → Entries
entries_later book next now steps = (book_after (next_book book next now) steps).entries

abbrev pub entries_before : PlainBook → Configuration → ℤ → List Step → Entries
entries_before book next now steps = (book_after (by_config book next) (calls_before book next now steps)).entries
