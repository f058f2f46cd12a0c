use Rattle.std.proofs.Common.{subst, IfSome}
use Rattle.ilp_journal.specs.declared.entry.Ask.{Ask}
use Rattle.ilp_journal.specs.Journal.{open_ask_at}
use Rattle.ilp_rules.specs.Book.{PlainBook}
use Rattle.ilp_rules.specs.Configured.{IsKnown}
use Rattle.ilp_follows.proofs.Standing.{ask_known}
use Rattle.ilp_follows.proofs.ended.EndedPeriod.open_ask.Goals as goal

pub returns-in-None-clause-known : goal.returns-in-None-clause-known
returns-in-None-clause-known c =
    subst (λ (b : PlainBook). IfSome (open_ask_at b.entries c.args.number) (λ (ask : Ask). IsKnown b.config ask.peer)) c.self.view_is
    (ask_known c.self.inside.config.now c.self.inside.number c.self.inside.journal.now.entries c.self.invariant.2 c.args.number)

pub returns-in-Some-clause-known : goal.returns-in-Some-clause-known
returns-in-Some-clause-known c =
    subst (λ (b : PlainBook). IfSome (open_ask_at b.entries c.args.number) (λ (ask : Ask). IsKnown b.config ask.peer)) c.self.view_is
    (ask_known c.self.inside.config.now c.self.inside.number c.self.inside.journal.now.entries c.self.invariant.2 c.args.number)
