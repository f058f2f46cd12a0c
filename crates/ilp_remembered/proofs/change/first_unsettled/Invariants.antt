use Rattle.std.proofs.Common.{ℕ, ◌<◌}
use Rattle.ilp_remembered.specs.Remembered.{IsUnsettled}
use Rattle.ilp_remembered.proofs.change.first_unsettled.Given as goal

-- no settlement with the peers so far is open
abbrev pub invariant-loop-peer : goal.invariant-loop-peer
invariant-loop-peer l = (before : ℕ) → before < l.peer → ¬ (IsUnsettled l.book.entries before)
