use Rattle.std.proofs.Common.{◌≡◌, ◌<◌, List, ℕ, length, subst}
use Rattle.std.specs.Prelude.{get_or}
use Rattle.test_tearing.specs.Tearing.{MayChange}
use Rattle.test_tearing.specs.declared.change.Change.{Change}
use Rattle.test_tearing.proofs.Changes.{left_next}
use Rattle.test_tearing.proofs.disk.Disk.left.Goals as goal

pub loop-change-preserved : goal.loop-change-preserved
loop-change-preserved c =
    let d = c.args.self.now in
    let n = c.loop-change.change-index in
    let x = c.change-item.result in
    let next = c.in_ok-left-2.left.items in
    let same = c.deref-change-items.ensures.value in
    left_next d.synced.items c.loop-change.left.items d.changes.items n c.loop-change.invariant x next
    (subst (λ (xs : List Change). n < length xs) same c.loop-change-test.true)
    (subst (λ (xs : List Change). x ≡ get_or xs n x) same c.change-item.is)
    (subst (λ (l : List ℕ). MayChange x l next) c.deref-in-loop-change.ensures.value c.in_ok-left-2.ensures)
