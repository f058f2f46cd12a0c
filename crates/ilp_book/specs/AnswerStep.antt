-- How a hold ends: by what came back for it, or by its deadline.
use Rattle.std.specs.Prelude.{◌≡◌, ◌≢◌, ℕ, ℤ, int_le, not, List, length, Option, Some, None, Result, Ok, Err, option_and_then, if◌then◌else◌}
use Rattle.ilp_order.specs.Refusals.{◌>>=◌, refuse_if}
use Rattle.ilp_journal.specs.declared.entry.What.{What}
use Rattle.ilp_journal.specs.declared.entry.What.TheVariants as what
use Rattle.ilp_journal.specs.declared.entry.Cause.{Cause}
use Rattle.ilp_journal.specs.declared.entry.Cause.TheVariants as cause
use Rattle.ilp_journal.specs.declared.entry.Hold.{Hold}
use Rattle.ilp_journal.specs.Journal.{Entries, answer_of, open_hold_at}
use Rattle.ilp_book.specs.declared.calls.PeerReply.{PeerReply}
use Rattle.ilp_book.specs.declared.calls.PeerReply.TheVariants as peer_reply
use Rattle.ilp_book.specs.declared.calls.Outcome.{Outcome}
use Rattle.ilp_book.specs.declared.calls.Outcome.TheVariants as outcome
use Rattle.ilp_book.specs.declared.fault.NotOpen.{NotOpen}
use Rattle.ilp_terms.specs.Condition.{meets}
use Rattle.ilp_rules.specs.Book.{PlainBook, By, Made, says, books, moment_at, extended}
use Rattle.ilp_rules.specs.Open.{earliest}

-- the preimage that a reply has, or why there is none
abbrev pub preimage_of : PeerReply → Result (List ℕ) Cause
preimage_of (peer_reply.Fulfill preimage) = Ok preimage
preimage_of peer_reply.BadFulfill = Err cause.WrongPreimage
preimage_of (peer_reply.Reject code) = Err (cause.Peer code)
preimage_of peer_reply.NoReply = Err cause.NoReply

-- the preimage that fulfills the hold at the moment m, or the cause of its release: lateness is seen first
unfoldable pub judged_reply : Hold → ℤ → PeerReply → Result (List ℕ) Cause
judged_reply h m reply = do
  _ ← refuse_if (int_le h.deadline m) cause.Late
  preimage ← preimage_of reply
  _ ← refuse_if (not (meets h.condition preimage)) cause.WrongPreimage
  Ok preimage

-- what is booked of a reply for the hold n that is judged
abbrev pub ending : ℕ → Result (List ℕ) Cause → What
ending n (Ok preimage) = what.Fulfilled n preimage
ending n (Err c) = what.Released n c

-- what is told of the entry by which a hold ended
abbrev pub outcome_of : ℕ → Result (List ℕ) Cause → Outcome
outcome_of number (Ok preimage) = outcome.Fulfilled number
outcome_of number (Err c) = outcome.Released number c

-- what an answer of the hold n makes, if that is open
abbrev pub answer_booked : PlainBook → By → ℕ → PeerReply → Option Hold → Made (Result Outcome NotOpen)
answer_booked book caller n reply None = says (Err (record { closer = answer_of book.entries n }))
answer_booked book caller n reply (Some h) =
    let judged = judged_reply h (moment_at book.entries caller.now) reply in
    books book caller (Ok (outcome_of (length book.entries) judged)) (ending n judged)

-- what came back for the hold n
unfoldable pub answer_step : PlainBook → By → ℕ → PeerReply → Made (Result Outcome NotOpen)
answer_step book caller n reply = answer_booked book caller n reply (open_hold_at book.entries n)

-- ---- expiry

-- the number of the open hold of least deadline, and of several the first, if that deadline has come
abbrev pub due : Entries → ℤ → Option ℕ
due j m = option_and_then (λ (first : ℕ × Hold). if int_le first.1.deadline m then Some first.0 else None) (earliest j)

-- what a sweep makes that finds this hold due
abbrev pub expire_booked : PlainBook → By → Option ℕ → Made (Option ℕ)
expire_booked book caller None = says None
expire_booked book caller (Some n) = books book caller (Some n) (what.Released n cause.Late)

-- the release of one hold whose deadline has come
unfoldable pub expire_step : PlainBook → By → Made (Option ℕ)
expire_step book caller = expire_booked book caller (due book.entries (moment_at book.entries caller.now))

-- ---- holds that are over

-- The hold n is over by the entry k for good: whatever is appended, each answer is told of that entry and appends nothing, and
-- no expiry takes the hold.
pub record IsOverBy (book : PlainBook) (n k : ℕ) : Type 0 where
  pub answers : (more : Entries) (caller : By) (reply : PeerReply)
      → answer_step (extended book more) caller n reply ≡ says (Err (record { closer = Some k }))
  pub expiries : (more : Entries) (caller : By) → (expire_step (extended book more) caller).reply ≢ Some n
