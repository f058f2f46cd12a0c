use Rattle.std.proofs.Common.{◌≡◌, ◌-◌, length}
use Rattle.ilp_holds.specs.Heap.{IsHeapBut, IsUnderParent}
use Rattle.ilp_holds.specs.Index.{IsIndexed, LeadsTo, holds}
use Rattle.ilp_holds.proofs.heap.sink.Given as goal

abbrev pub invariant-loop-child : goal.invariant-loop-child
invariant-loop-child l = record {
  leads : LeadsTo l.index l.row l.at;
  indexed : IsIndexed l.heap l.index;
  same : holds l.heap l.index ≡ holds l.initial.heap l.initial.index;
  almost : IsHeapBut l.heap l.at;
  under : IsUnderParent l.heap l.at;
}

abbrev pub decreases-loop-child : goal.decreases-loop-child
decreases-loop-child l = length l.initial.heap - l.at
