-- Every run of calls leaves a lawful book.
use Rattle.std.proofs.Common.{◌≡◌, ℕ, List, [], ◌∷◌, refl, subst, arith}
use Rattle.ilp_accounts.specs.Configuration.{Configuration}
use Rattle.ilp_accounts.specs.Valid.{IsValid}
use Rattle.ilp_journal.specs.TrialBalance.{IsBalanced}
use Rattle.ilp_rules.specs.Book.{PlainBook, By, Growth, with_entry, new_book}
use Rattle.ilp_rules.specs.Configured.{peer_assets}
use Rattle.ilp_rules.specs.Lawful.{IsLawful}
use Rattle.ilp_book.specs.Run.{Call, hold, answer, expire, credit, ask, close, Step, made_by, after_step, book_after, IsAllowed, AreAllowed}
use Rattle.ilp_rules.proofs.LawfulGrowth.{lawful_empty}
use Rattle.ilp_rules.proofs.Rules.{lawful_balanced}
use Rattle.ilp_book.proofs.HoldSteps.{hold_lawful}
use Rattle.ilp_book.proofs.AnswerSteps.{answer_lawful, expire_lawful}
use Rattle.ilp_book.proofs.SettleSteps.{credit_lawful, ask_lawful, close_lawful}

-- a call leaves a lawful book lawful
pub call_lawful : (book : PlainBook) (caller : By) (growth : Growth) (call : Call) → IsValid book.config → IsLawful book → IsAllowed book.config call
    → IsLawful (with_entry book (made_by book caller growth call).entry)
call_lawful book caller growth (hold sent) valid lawful allowed = hold_lawful book caller sent growth valid lawful allowed.0 allowed.1
call_lawful book caller growth (answer n reply) valid lawful allowed = answer_lawful book caller n reply lawful
call_lawful book caller growth expire valid lawful allowed = expire_lawful book caller lawful
call_lawful book caller growth (credit p) valid lawful allowed = credit_lawful book caller p growth lawful allowed.0 allowed.1
call_lawful book caller growth (ask peer) valid lawful allowed = ask_lawful book caller peer growth valid allowed lawful
call_lawful book caller growth (close n verdict) valid lawful allowed = close_lawful book caller n verdict lawful

-- a run leaves it lawful
pub steps_lawful : (book : PlainBook) (steps : List Step) → IsValid book.config → IsLawful book → AreAllowed book.config steps → IsLawful (book_after book steps)
steps_lawful book [] valid lawful allowed = lawful
steps_lawful book (s ∷ ss) valid lawful allowed =
    steps_lawful (after_step book s) ss valid (call_lawful book s.caller s.growth s.call valid lawful allowed.0) allowed.1

-- from the book of no entries on
pub runs_lawful : (C : Configuration) (steps : List Step) → IsValid C → AreAllowed C steps → IsLawful (book_after (new_book C) steps)
runs_lawful C steps valid allowed = steps_lawful (new_book C) steps valid (lawful_empty (new_book C) valid (omega arith)) allowed

-- a run keeps the configuration
pub config_kept : (book : PlainBook) (steps : List Step) → (book_after book steps).config ≡ book.config
config_kept book [] = refl
config_kept book (s ∷ ss) = config_kept (after_step book s) ss

pub runs_balanced : (C : Configuration) (steps : List Step) (x : ℕ) → IsValid C → AreAllowed C steps → IsBalanced (peer_assets C) (book_after (new_book C) steps).entries x
runs_balanced C steps x valid allowed =
    let after : PlainBook = book_after (new_book C) steps in
    subst (λ D. IsBalanced (peer_assets D) after.entries x) (config_kept (new_book C) steps) (lawful_balanced after x (runs_lawful C steps valid allowed))
