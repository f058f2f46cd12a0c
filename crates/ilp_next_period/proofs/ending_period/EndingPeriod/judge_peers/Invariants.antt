use Rattle.std.proofs.Common.{ℕ, ◌<◌}
use Rattle.ilp_next_period.specs.NextPeriod.{MayKeep}
use Rattle.ilp_next_period.proofs.ending_period.EndingPeriod.judge_peers.Given as goal

-- each peer so far may keep what it has
abbrev pub invariant-loop-peer : goal.invariant-loop-peer
invariant-loop-peer g l = (p : ℕ) → p < l.peer → MayKeep l.self l.config p
