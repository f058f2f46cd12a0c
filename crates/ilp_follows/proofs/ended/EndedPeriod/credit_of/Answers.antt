use Rattle.std.proofs.Common.{subst, IfSome}
use Rattle.ilp_journal.specs.declared.entry.Credited.{Credited}
use Rattle.ilp_journal.specs.Credits.{credit_at}
use Rattle.ilp_rules.specs.Book.{PlainBook}
use Rattle.ilp_rules.specs.Configured.{IsKnown}
use Rattle.ilp_follows.proofs.Standing.{credit_known}
use Rattle.ilp_follows.proofs.ended.EndedPeriod.credit_of.Goals as goal

pub returns-clause-known : goal.returns-clause-known
returns-clause-known c =
    subst (λ (b : PlainBook). IfSome (credit_at b.entries c.args.number) (λ (credit : Credited). IsKnown b.config credit.peer)) c.self.view_is
    (credit_known c.self.inside.config.now c.self.inside.number c.self.inside.journal.now.entries c.self.invariant.2 c.args.number)
