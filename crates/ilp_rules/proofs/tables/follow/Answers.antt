use Rattle.std.proofs.Common.{ℤ, subst, sym, ap, ◌∙◌, rules, FitsSigned, inl, inr, w64, to_z-of_z}
use Rattle.std.specs.Ordering.{nat_cmp}
use Rattle.std.specs.FinMap as fin_map
use Rattle.std.specs.FinMap.{FinMap}
use Rattle.ilp_journal.specs.Journal.{as_hold, answered}
use Rattle.ilp_rules.specs.Tables.{FollowsHolds}
use Rattle.ilp_rules.proofs.TableSteps.{follows_hold, follows_answer}
use Rattle.ilp_rules.proofs.tables.follow.Goals as goal

-- the hold is added by its deadline
pub returns-in-Hold : goal.returns-in-Hold
returns-in-Hold g c =
    let old = c.args.holds.now.map in
    let fits : FitsSigned w64 c.in-Hold.hold.deadline = search rules in
    let Follows : FinMap nat_cmp ℤ → Type 0 = λ m. FollowsHolds old m c.args.number c.args.what.now in
    subst Follows (sym (c.insert.ensures.map ∙ ap (fin_map.insert old c.args.number) (to_z-of_z fits)))
    (follows_hold old c.args.number c.args.what.now c.in-Hold.hold c.in-Hold.is)

-- the hold that was answered is taken out
pub returns-in-Fulfilled : goal.returns-in-Fulfilled
returns-in-Fulfilled g c =
    let old = c.args.holds.now.map in
    let Follows : FinMap nat_cmp ℤ → Type 0 = λ m. FollowsHolds old m c.args.number c.args.what.now in
    subst Follows (sym c.take.ensures.map)
    (elim c.in-Fulfilled.is [
      | inl is ↦ follows_answer old c.args.number c.in-Fulfilled.hold c.args.what.now c.requires.absent (ap as_hold is.1) (ap answered is.1)
      | inr is ↦ follows_answer old c.args.number c.in-Fulfilled.hold c.args.what.now c.requires.absent (ap as_hold is.1) (ap answered is.1)
    ])
