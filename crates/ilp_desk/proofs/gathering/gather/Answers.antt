use Rattle.std.proofs.Common.{subst, ap, sym, ◌∙◌, arith, length}
use Rattle.ilp_book.specs.Book.{PlainBook}
use Rattle.ilp_desk.specs.Gathering.{IsGathered, IsWhole}
use Rattle.ilp_desk.proofs.Gathered.{gathered}
use Rattle.ilp_desk.proofs.gathering.gather.Goals as goal

pub returns-in-None-clause-gathered : goal.returns-in-None-clause-gathered
returns-in-None-clause-gathered g c =
    let desk = g.J.Naming.desk in
    let ends = c.args.ends.items in
    let whole = subst (λ b. IsWhole desk b ends) c.book.ensures.value c.in-None.ensures in
    let same = ap (λ (b : PlainBook). length b.entries) c.into_locked.ensures in
    let unlocked = gathered desk c.unlock-desk.result ends c.book.ensures.of_desk whole (omega (arith, same, c.close.ensures.entries, c.book.ensures.of_desk.base)) in
    subst (λ b. IsGathered desk b ends) (sym (c.close.ensures.book ∙ c.into_locked.ensures)) unlocked
