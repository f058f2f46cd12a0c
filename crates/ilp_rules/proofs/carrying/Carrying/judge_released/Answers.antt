use Rattle.std.proofs.Common.{◌≡◌, ◌<◌, true, false, length, Some, sym, ap, ◌∙◌, subst, rules}
use Rattle.std.specs.Prelude.{FitsSigned}
use Rattle.std.specs.Int.{w64}
use Rattle.std.proofs.lemmas.Int.{to_z-of_z}
use Rattle.ilp_journal.specs.Journal.{open_hold_at}
use Rattle.ilp_rules.specs.Book.{PlainBook}
use Rattle.ilp_rules.specs.Judging.{behind_all}
use Rattle.ilp_rules.specs.Parts.{book_of}
use Rattle.ilp_rules.proofs.Judging.{comes_before, not_reached}
use Rattle.ilp_rules.proofs.carrying.Carrying.judge_released.Goals as goal

-- neither is the cause Late nor the deadline reached
pub returns-in-true-true-2-clause-ok : goal.returns-in-true-true-2-clause-ok
returns-in-true-true-2-clause-ok g c =
    let book = book_of c.self.inside.config c.self.inside.period behind_all c.self.inside.journal in
    let moment_fits : FitsSigned w64 c.args.moment = search rules in
    let deadline_fits : FitsSigned w64 c.in-Some.hold.deadline = search rules in
    let stands : open_hold_at c.args.self.now.entries c.args.number ≡ Some c.in-Some.hold =
    sym (ap (λ (b : PlainBook). open_hold_at b.entries c.args.number) c.self.view_is) ∙ (sym c.open_hold_at.ensures ∙ c.in-Some.is) in (
      rw stands (
        λ late. absurd (let is : false ≡ true = c.in-true-true.ensures.1 late in cc),
        λ reached. absurd (not_reached _ _ _ _ (to_z-of_z w64 c.in-Some.hold.deadline deadline_fits) (to_z-of_z w64 c.args.moment moment_fits) c.in-true-true.is-1 reached),
      ),
      λ _. subst (λ (b : PlainBook). length b.entries < b.base) c.self.view_is (comes_before book c.self.invariant.valid c.self.invariant.lawful),
    )
