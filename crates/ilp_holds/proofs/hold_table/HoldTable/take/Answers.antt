use Rattle.std.proofs.Common.{◌≡◌, length, drop, w64, ◌∙◌, sym, ap, subst, rules}
use Rattle.std.specs.FinMap as finmap
use Rattle.std.proofs.lemmas.Int.{to_z-of_z}
use Rattle.std.proofs.lemmas.List.{take_at, get_or_read}
use Rattle.ilp_holds.specs.Due.{due, no_due}
use Rattle.ilp_holds.specs.Index.{row, no_row, IsFoundAt, IsMissingAt}
use Rattle.ilp_holds.proofs.Deadlines.{len_without}
use Rattle.ilp_holds.proofs.Held.{get_missing, get_found, remove_missing, remove_found}
use Rattle.ilp_holds.proofs.hold_table.HoldTable.take.Goals as goal

pub returns-in_default-clause-deadline : goal.returns-in_default-clause-deadline
returns-in_default-clause-deadline g c =
    let missing = subst (λ rows. IsMissingAt rows c.args.number c.in_default.field-0) c.deref.ensures.value c.in_default.ensures.missing in
    sym (get_missing _ _ c.self.invariant.indexed _ _ missing) ∙ ap (λ t. finmap.get t.map c.args.number) c.self.view_is

pub returns-in_default-clause-map : goal.returns-in_default-clause-map
returns-in_default-clause-map g c =
    let missing = subst (λ rows. IsMissingAt rows c.args.number c.in_default.field-0) c.deref.ensures.value c.in_default.ensures.missing in
    rw (← ap (λ t. t.map) c.self.view_is) (remove_missing _ _ c.self.invariant.indexed _ _ missing)

pub returns-clause-deadline : goal.returns-clause-deadline
returns-clause-deadline g c =
    let found = subst (λ rows. IsFoundAt rows c.args.number c.in-Ok.row) c.deref.ensures.value c.in-Ok.ensures.found in
    let at : c.index.result.now ≡ row c.self.inside.index.items c.in-Ok.row = get_or_read _ _ _ found.0 c.index.ensures no_row in
    let within = c.self.invariant.indexed.within _ found.0 in
    let is : c.index-2.result.now ≡ due c.self.inside.heap.items (row c.self.inside.index.items c.in-Ok.row).at = get_or_read _ _ _ within (rw at at c.index-2.ensures) no_due in
    let same = to_z-of_z w64 c.index-2.result.now.deadline (search rules) in
    rw (same, is) (sym (get_found _ _ c.self.invariant.indexed _ _ found) ∙ ap (λ t. finmap.get t.map c.args.number) c.self.view_is)

pub returns-clause-map : goal.returns-clause-map
returns-clause-map g c =
    let heap_is = take_at c.reorder_at.new.heap (drop (length c.reorder_at.new.heap) c.take_out-at.new.heap.items) _ (c.reorder_at.auto.heap ∙ c.deref_mut.ensures.len) in
    let index_is = take_at c.reorder_at.new.index (drop (length c.reorder_at.new.index) c.take_out-at.new.index.items) _ (c.reorder_at.auto.index ∙ c.deref_mut-2.ensures.len) in
    let found = subst (λ rows. IsFoundAt rows c.args.number c.in-Ok.row) c.deref.ensures.value c.in-Ok.ensures.found in
    let left = rw (← c.deref_mut.ensures.value, ← c.deref_mut-2.ensures.value) at c.take_out-at.ensures.taken.left in
    rw (heap_is, index_is, c.reorder_at.ensures.same, left)
    (remove_found _ _ c.self.invariant.indexed _ _ found ∙ ap (λ t. finmap.remove t.map c.args.number) c.self.view_is)

pub returns-clause-fewer : goal.returns-clause-fewer
returns-clause-fewer g c = rw (returns-clause-map g c) (len_without _ _ _ (sym (returns-clause-deadline g c)))
