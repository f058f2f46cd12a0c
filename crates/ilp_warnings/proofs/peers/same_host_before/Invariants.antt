use Rattle.std.proofs.Common.{ℕ, ◌<◌}
use Rattle.ilp_warnings.specs.Meaning.{HaveSameHost}
use Rattle.ilp_warnings.proofs.peers.same_host_before.Given as goal

abbrev pub invariant-loop-other : goal.invariant-loop-other
invariant-loop-other l = (other : ℕ) → other < l.other → ¬ HaveSameHost l.config l.peer other
