use Rattle.std.proofs.Common.{◌<◌, length, subst}
use Rattle.ilp_rules.specs.Book.{PlainBook}
use Rattle.ilp_rules.specs.Judging.{behind_all}
use Rattle.ilp_rules.specs.Parts.{book_of}
use Rattle.ilp_rules.proofs.Judging.{comes_before}
use Rattle.ilp_rules.proofs.carrying.Carrying.judge_head.Goals as goal

pub returns-then-self-eq0-clause-begun : goal.returns-then-self-eq0-clause-begun
returns-then-self-eq0-clause-begun g c =
    let book = book_of c.self.inside.config c.self.inside.period behind_all c.self.inside.journal in
    subst (λ (b : PlainBook). length b.entries < b.base) c.self.view_is (comes_before book c.self.invariant.valid c.self.invariant.lawful)

pub returns-clause-begun : goal.returns-clause-begun
returns-clause-begun g c =
    let book = book_of c.self.inside.config c.self.inside.period behind_all c.self.inside.journal in
    subst (λ (b : PlainBook). length b.entries < b.base) c.self.view_is (comes_before book c.self.invariant.valid c.self.invariant.lawful)
