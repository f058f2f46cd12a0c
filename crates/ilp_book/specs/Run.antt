-- Lists of calls, of any actors, one after another on one book.
use Rattle.std.specs.Prelude.{ℕ, List, [], ◌∷◌, Option, Result, ⊤}
use Rattle.ilp_lookup.specs.Route.{IsRoute}
use Rattle.ilp_accounts.specs.Configuration.{Configuration}
use Rattle.ilp_journal.specs.Keys.{IsKey}
use Rattle.ilp_settlement.specs.declared.verdict.EngineVerdict.{EngineVerdict}
use Rattle.ilp_book.specs.declared.calls.Held.{Held}
use Rattle.ilp_book.specs.declared.fault.HoldFault.{HoldFault}
use Rattle.ilp_book.specs.declared.calls.PeerReply.{PeerReply}
use Rattle.ilp_book.specs.declared.calls.Outcome.{Outcome}
use Rattle.ilp_book.specs.declared.fault.NotOpen.{NotOpen}
use Rattle.ilp_book.specs.declared.calls.Kept.{Kept}
use Rattle.ilp_book.specs.declared.fault.CreditFault.{CreditFault}
use Rattle.ilp_book.specs.declared.calls.Asked.{Asked}
use Rattle.ilp_book.specs.declared.fault.AskFault.{AskFault}
use Rattle.ilp_rules.specs.Configured.{IsKnown}
use Rattle.ilp_rules.specs.Book.{PlainBook, By, Growth, Made, replied_as, with_entry}
use Rattle.ilp_book.specs.HoldStep.{Incoming, hold_step}
use Rattle.ilp_book.specs.AnswerStep.{answer_step, expire_step}
use Rattle.ilp_book.specs.SettleStep.{Payment, credit_step, ask_step, close_step}

pub data Call : Type 0 where
  hold : Incoming → Call
  answer : ℕ → PeerReply → Call
  expire : Call
  credit : Payment → Call
  ask : ℕ → Call
  close : ℕ → EngineVerdict → Call

-- what a call is answered
pub data CallReply : Type 0 where
  of_hold : Result Held HoldFault → CallReply
  of_answer : Result Outcome NotOpen → CallReply
  of_expire : Option ℕ → CallReply
  of_credit : Result Kept CreditFault → CallReply
  of_ask : Result Asked AskFault → CallReply
  of_close : Result ℕ NotOpen → CallReply

-- a call, who makes it and when, and whether memory is granted
pub record Step : Type 0 where
  pub caller : By
  pub call : Call
  pub growth : Growth

-- What a call may be given: peers that are known, a destination's own route, and a key.
abbrev pub IsAllowed : Configuration → Call → Type 0
IsAllowed C (hold sent) = IsKnown C sent.from × IsRoute C.routes sent.packet.destination sent.route
IsAllowed C (credit p) = IsKnown C p.peer × IsKey p.key
IsAllowed C (ask peer) = IsKnown C peer
IsAllowed C (answer n reply) = ⊤
IsAllowed C expire = ⊤
IsAllowed C (close n verdict) = ⊤

abbrev pub AreAllowed : Configuration → List Step → Type 0
AreAllowed C [] = ⊤
AreAllowed C (s ∷ ss) = IsAllowed C s.call × AreAllowed C ss

-- what a call makes of a book, its reply as one of the six kinds
abbrev pub made_by : PlainBook → By → Growth → Call → Made CallReply
made_by book caller growth (hold sent) = replied_as of_hold (hold_step book caller sent growth)
made_by book caller growth (answer n reply) = replied_as of_answer (answer_step book caller n reply)
made_by book caller growth expire = replied_as of_expire (expire_step book caller)
made_by book caller growth (credit p) = replied_as of_credit (credit_step book caller p growth)
made_by book caller growth (ask peer) = replied_as of_ask (ask_step book caller peer growth)
made_by book caller growth (close n verdict) = replied_as of_close (close_step book caller n verdict)

-- one step on a book
abbrev pub step : PlainBook → Step → Made CallReply
step book s = made_by book s.caller s.growth s.call

-- the book after a step
abbrev pub after_step : PlainBook → Step → PlainBook
after_step book s = with_entry book (step book s).entry

-- the book after a list of steps
abbrev pub book_after : PlainBook → List Step → PlainBook
book_after book [] = book
book_after book (s ∷ ss) = book_after (after_step book s) ss

-- what the steps are answered, in order
abbrev pub replies_to : PlainBook → List Step → List CallReply
replies_to book [] = []
replies_to book (s ∷ ss) = (step book s).reply ∷ replies_to (after_step book s) ss
