use Rattle.std.proofs.Common.{ℕ, ◌<◌}
use Rattle.ilp_follows.specs.Follows.{MayTell}
use Rattle.ilp_follows.proofs.ended.EndedPeriod.judge_peers.Given as goal

-- what each peer so far has may be told
abbrev pub invariant-loop-peer : goal.invariant-loop-peer
invariant-loop-peer l = (p : ℕ) → p < l.peer → MayTell l.self l.config p
