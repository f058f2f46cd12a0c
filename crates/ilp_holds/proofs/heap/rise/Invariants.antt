use Rattle.std.proofs.Common.{◌≡◌}
use Rattle.ilp_holds.specs.Heap.{IsHeapBut}
use Rattle.ilp_holds.specs.Index.{IsIndexed, LeadsTo, holds}
use Rattle.ilp_holds.proofs.heap.rise.Given as goal

abbrev pub invariant-loop-parent : goal.invariant-loop-parent
invariant-loop-parent l = record {
  leads : LeadsTo l.index l.row l.at;
  indexed : IsIndexed l.heap l.index;
  same : holds l.heap l.index ≡ holds l.initial.heap l.initial.index;
  almost : IsHeapBut l.heap l.at;
}

abbrev pub decreases-loop-parent : goal.decreases-loop-parent
decreases-loop-parent l = l.at
