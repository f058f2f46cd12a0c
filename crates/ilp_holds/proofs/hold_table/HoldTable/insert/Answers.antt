use Rattle.std.proofs.Common.{length, drop, w64, ◌∙◌, sym, ap, subst}
use Rattle.std.specs.FinMap as finmap
use Rattle.std.proofs.lemmas.Int.{to_z-of_z}
use Rattle.std.proofs.lemmas.List.{take_at}
use Rattle.ilp_holds.specs.Index.{IsFoundAt, IsMissingAt}
use Rattle.ilp_holds.proofs.Held.{get_found, insert_missing}
use Rattle.ilp_holds.proofs.hold_table.HoldTable.insert.Goals as goal

pub unreachable-requires : goal.unreachable-requires
unreachable-requires g c =
    let found = subst (λ rows. IsFoundAt rows c.args.number c.in_default.field-0) c.deref.ensures.value c.in_default.ensures.found in
    let some = sym (get_found _ _ c.self.invariant.indexed _ _ found) ∙ ap (λ t. finmap.get t.map c.args.number) c.self.view_is ∙ c.requires.absent in
    cc some

pub returns-clause-map : goal.returns-clause-map
returns-clause-map g c =
    let heap_is = take_at c.reorder.new.heap (drop (length c.reorder.new.heap) c.add-at.new.heap.items) _ (c.reorder.auto.heap ∙ c.deref_mut.ensures.len) in
    let index_is = take_at c.reorder.new.index (drop (length c.reorder.new.index) c.add-at.new.index.items) _ (c.reorder.auto.index ∙ c.deref_mut-2.ensures.len) in
    let missing = subst (λ rows. IsMissingAt rows c.args.number c.in-Err.row) c.deref.ensures.value c.in-Err.ensures.missing in
    let joined = rw (← c.deref_mut.ensures.value, ← c.deref_mut-2.ensures.value) at c.add-at.ensures.added.joined in
    rw (heap_is, index_is, c.reorder.ensures.same, joined, to_z-of_z w64 c.args.deadline c.ranges.deadline)
    (insert_missing _ _ c.self.invariant.indexed _ _ _ missing ∙ ap (λ t. finmap.insert t.map c.args.number c.args.deadline) c.self.view_is)
