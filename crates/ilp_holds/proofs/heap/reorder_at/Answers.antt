use Rattle.ilp_holds.proofs.Exchanged.{found_leads}
use Rattle.ilp_holds.proofs.Held.{get_missing, get_place}
use Rattle.ilp_holds.proofs.heap.reorder_at.Goals as goal

pub unreachable-requires : goal.unreachable-requires
unreachable-requires c =
    let some = get_place c.args.heap.now c.args.index.now c.requires.indexed c.args.at c.if-at-heap.true in
    let none = get_missing c.args.heap.now c.args.index.now c.requires.indexed _ _ c.in_default.ensures.missing in
    cc (some, none)

pub reorder-requires-clause-leads : goal.reorder-requires-clause-leads
reorder-requires-clause-leads c = found_leads c.args.heap.now c.args.index.now _ c.args.at c.requires.indexed c.if-at-heap.true c.in-Ok.ensures.found
