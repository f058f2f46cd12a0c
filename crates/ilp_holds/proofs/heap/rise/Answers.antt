use Rattle.std.proofs.Common.{◌∙◌, ◌<◌, length, refl, arith}
use Rattle.ilp_holds.proofs.HeapSteps.{risen}
use Rattle.ilp_holds.proofs.Rows.{place_within}
use Rattle.ilp_holds.proofs.heap.rise.Goals as goal

pub loop-parent-preserved : goal.loop-parent-preserved
loop-parent-preserved c =
    let was = c.loop-parent.invariant in
    let some_parent = c.loop-parent-test.ensures.yes in
    let swapped = c.exchange.ensures.heap in
    let within : c.loop-parent.at < length c.loop-parent.heap = place_within _ _ _ _ was.indexed was.leads in
    record {
      leads = c.exchange.ensures.leads;
      indexed = c.exchange.ensures.indexed;
      same = c.exchange.ensures.same ∙ was.same;
      almost = risen c.loop-parent.heap _ c.loop-parent.at _ within (omega arith) swapped refl some_parent was.almost;
    }
