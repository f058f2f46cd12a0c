use Rattle.std.specs.Prelude.{◌≡◌, ◌+◌, sum_by, vec_len}
use Rattle.ilp_desk.specs.Portion.{Holding}
use Rattle.ilp_desk.proofs.locked.LockedBook.close.Given as goal

abbrev pub invariant-loop-end : goal.invariant-loop-end
invariant-loop-end g l =
    (l.all.parts + vec_len l.left ≡ vec_len l.fn.ends) × (l.all.amount + sum_by (λ (h : Holding). h.share.entries) l.left.items ≡ sum_by (λ (h : Holding). h.share.entries) l.fn.ends.items)

abbrev pub decreases-loop-end : goal.decreases-loop-end
decreases-loop-end g l = vec_len l.left
