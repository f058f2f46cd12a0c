use Rattle.std.proofs.Common.{◌∙◌, ◌<◌, length}
use Rattle.ilp_holds.proofs.HeapSteps.{sunk, sunk_under}
use Rattle.ilp_holds.proofs.Rows.{place_within}
use Rattle.ilp_holds.proofs.heap.sink.Goals as goal

pub loop-child-preserved : goal.loop-child-preserved
loop-child-preserved c =
    let was = c.loop-child.invariant in
    let earlier = c.in-Some.ensures.earlier in
    let within = earlier.is_first.within in
    let swapped = c.exchange.ensures.heap in
    let at_within : c.loop-child.at < length c.loop-child.heap = place_within _ _ _ _ was.indexed was.leads in
    record {
      leads = c.exchange.ensures.leads;
      indexed = c.exchange.ensures.indexed;
      same = c.exchange.ensures.same ∙ was.same;
      almost = sunk c.loop-child.heap _ c.loop-child.at c.in-Some.child at_within within swapped earlier was.almost;
      under = sunk_under c.loop-child.heap _ c.loop-child.at c.in-Some.child at_within within swapped earlier was.almost;
    }
