-- Whoever calls a step is the actor of the entry that it makes.
use Rattle.std.proofs.Common.{◌≡◌, ℕ, Option, Some, None, refl}
use Rattle.std.specs.Prelude.{Result, Ok, Err, ⊤}
use Rattle.ilp_journal.specs.declared.entry.Entry.{Entry}
use Rattle.ilp_journal.specs.declared.entry.Hold.{Hold}
use Rattle.ilp_journal.specs.declared.entry.Ask.{Ask}
use Rattle.ilp_journal.specs.declared.entry.Credited.{Credited}
use Rattle.ilp_journal.specs.Journal.{open_hold_at, open_ask_at}
use Rattle.ilp_book.specs.declared.fault.HoldFault.{HoldFault}
use Rattle.ilp_book.specs.declared.fault.CreditFault.{CreditFault}
use Rattle.ilp_book.specs.declared.fault.AskFault.{AskFault}
use Rattle.ilp_book.specs.declared.calls.PeerReply.{PeerReply}
use Rattle.ilp_book.specs.declared.calls.Kept.{Kept}
use Rattle.ilp_book.specs.Book.{PlainBook, By, Growth, granted, denied, moment_at}
use Rattle.ilp_book.specs.HoldStep.{Incoming, hold_checked, hold_booked, hold_step}
use Rattle.ilp_book.specs.AnswerStep.{answer_booked, answer_step, due, expire_booked, expire_step}
use Rattle.ilp_settlement.specs.declared.verdict.EngineVerdict.{EngineVerdict}
use Rattle.ilp_book.specs.SettleStep.{Payment, credit_checked, credit_booked, credit_step, ask_checked, ask_booked, ask_step, close_booked, close_step}

-- the entry, if there is one, is the actor's
abbrev pub IsBy : ℕ → Option Entry → Type 0
IsBy actor None = ⊤
IsBy actor (Some e) = e.actor ≡ actor

-- of a hold, if there is one
pub hold_by : (book : PlainBook) (caller : By) (sent : Incoming) (growth : Growth) → IsBy caller.actor (hold_step book caller sent growth).entry
unfolding hold_step
hold_by book caller sent growth = of (hold_checked book (moment_at book.entries caller.now) sent) growth
  where
    of : (r : Result Hold HoldFault) (g : Growth) → IsBy caller.actor (hold_booked book caller g r).entry
    of (Err fault) g = tt
    of (Ok h) denied = tt
    of (Ok h) granted = refl

-- of an answer, if the hold is open
pub answer_by : (book : PlainBook) (caller : By) (n : ℕ) (reply : PeerReply) → IsBy caller.actor (answer_step book caller n reply).entry
unfolding answer_step
answer_by book caller n reply = of (open_hold_at book.entries n)
  where
    of : (o : Option Hold) → IsBy caller.actor (answer_booked book caller n reply o).entry
    of None = tt
    of (Some h) = refl

-- of a release, if a hold is due
pub expire_by : (book : PlainBook) (caller : By) → IsBy caller.actor (expire_step book caller).entry
unfolding expire_step
expire_by book caller = of (due book.entries (moment_at book.entries caller.now))
  where
    of : (o : Option ℕ) → IsBy caller.actor (expire_booked book caller o).entry
    of None = tt
    of (Some n) = refl

-- of a credit, if it is a new one
pub credit_by : (book : PlainBook) (caller : By) (p : Payment) (growth : Growth) → IsBy caller.actor (credit_step book caller p growth).entry
unfolding credit_step
credit_by book caller p growth = of (credit_checked book p) growth
  where
    of : (r : Result Credited (Result Kept CreditFault)) (g : Growth) → IsBy caller.actor (credit_booked book caller g r).entry
    of (Err reply) g = tt
    of (Ok c) denied = tt
    of (Ok c) granted = refl

-- of an ask, if it is due
pub ask_by : (book : PlainBook) (caller : By) (peer : ℕ) (growth : Growth) → IsBy caller.actor (ask_step book caller peer growth).entry
unfolding ask_step
ask_by book caller peer growth = of (ask_checked book peer) growth
  where
    of : (r : Result Ask AskFault) (g : Growth) → IsBy caller.actor (ask_booked book caller g r).entry
    of (Err fault) g = tt
    of (Ok a) denied = tt
    of (Ok a) granted = refl

-- of a closing, if the settlement is open
pub close_by : (book : PlainBook) (caller : By) (n : ℕ) (verdict : EngineVerdict) → IsBy caller.actor (close_step book caller n verdict).entry
unfolding close_step
close_by book caller n verdict = of (open_ask_at book.entries n)
  where
    of : (o : Option Ask) → IsBy caller.actor (close_booked book caller n verdict o).entry
    of None = tt
    of (Some a) = refl
