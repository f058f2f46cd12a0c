use Rattle.std.proofs.Common.{subst, IfSome}
use Rattle.ilp_journal.specs.declared.entry.Credited.{Credited}
use Rattle.ilp_journal.specs.Credits.{credit_at}
use Rattle.ilp_rules.specs.Book.{PlainBook}
use Rattle.ilp_rules.specs.Configured.{IsKnown}
use Rattle.ilp_rules.specs.Parts.{book_of}
use Rattle.ilp_next_period.proofs.NextJudging.{credit_known}
use Rattle.ilp_next_period.proofs.ending_period.EndingPeriod.credit_of.Goals as goal

pub returns-clause-known : goal.returns-clause-known
returns-clause-known g c =
    subst (λ (b : PlainBook). IfSome (credit_at b.entries c.args.number) (λ (credit : Credited). IsKnown b.config credit.peer)) c.self.view_is
    (credit_known (book_of c.self.inside.config.now c.self.inside.period c.self.inside.base c.self.inside.journal.now) c.self.invariant.lawful c.args.number)
