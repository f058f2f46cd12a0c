use Rattle.std.proofs.Common.{arith, ℤ, inl, inr, subst, sym, ◌∙◌}
use Rattle.std.specs.Int.{w128}
use Rattle.std.proofs.lemmas.Bool.{cases_eq}
use Rattle.std.proofs.lemmas.Int.{to_z-of_z}
use Rattle.std.proofs.lemmas.Option.{gets, slice_get_within}
use Rattle.ilp_statement_text.specs.Totals.{Counts}
use Rattle.ilp_order.proofs.Written.{at_written, beside_written}
use Rattle.ilp_statement_text.proofs.totals.Totals.add.Goals as goal

pub loop-total-preserved : goal.loop-total-preserved
loop-total-preserved c = record {
  counted = λ n old new below was is of. elim (cases_eq n c.loop-total.total-index) [
    | inl here ↦ grind (arith, gets, here, was, is, of, at_written c.loop-total.total-items c.loop-total.total-index c.count.new.self, c.loop-total.invariant.left n, c.count.ensures)
    | inr other ↦ c.loop-total.invariant.counted n old new (omega (arith, below, other)) was (sym (beside_written c.loop-total.total-items c.loop-total.total-index c.count.new.self n other) ∙ is) of
  ];
  others = λ n old below was not. elim (cases_eq n c.loop-total.total-index) [
    | inl here ↦ grind (arith, gets, here, was, not, at_written c.loop-total.total-items c.loop-total.total-index c.count.new.self, c.loop-total.invariant.left n, c.count.ensures)
    | inr other ↦ beside_written c.loop-total.total-items c.loop-total.total-index c.count.new.self n other ∙ c.loop-total.invariant.others n old (omega (arith, below, other)) was not
  ];
  left = λ n from. beside_written c.loop-total.total-items c.loop-total.total-index c.count.new.self n (λ here. omega (arith, here, from)) ∙ c.loop-total.invariant.left n (omega (arith, from));
}

pub returns-clause-counted : goal.returns-clause-counted
returns-clause-counted c n old new was is of =
    let counted = c.loop-total.invariant.counted n old new (omega (arith, slice_get_within c.args.self.now.0 n old was, c.loop-total-test.false)) was is of in
    subst (λ (amount : ℤ). Counts amount old new) (to_z-of_z w128 c.args.amount c.ranges.amount) counted
