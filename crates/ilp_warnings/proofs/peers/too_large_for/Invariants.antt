use Rattle.std.proofs.Common.{◌≢◌, ℕ, ◌<◌}
use Rattle.ilp_warnings.specs.Meaning.{IsTooLargeFor}
use Rattle.ilp_warnings.proofs.peers.too_large_for.Given as goal

abbrev pub invariant-loop-other : goal.invariant-loop-other
invariant-loop-other l = (other : ℕ) → other < l.other → other ≢ l.peer → ¬ IsTooLargeFor l.config l.peer other
