use Rattle.std.proofs.Common.{ℕ, ◌<◌}
use Rattle.ilp_remembered.specs.Remembered.{IsChanged}
use Rattle.ilp_remembered.proofs.change.first_changed.Given as goal

-- none of the peers so far has another asset in which something is counted
abbrev pub invariant-loop-peer : goal.invariant-loop-peer
invariant-loop-peer l = (before : ℕ) → before < l.peer → ¬ (IsChanged l.book.config l.book.entries l.text before)
