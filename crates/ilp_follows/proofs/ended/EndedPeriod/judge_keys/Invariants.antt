use Rattle.std.proofs.Common.{ℕ, ◌<◌}
use Rattle.ilp_follows.specs.Follows.{KeepsAsset}
use Rattle.ilp_follows.proofs.ended.EndedPeriod.judge_keys.Given as goal

-- each credit so far is of a peer whose asset stays
abbrev pub invariant-loop-number : goal.invariant-loop-number
invariant-loop-number l = (n : ℕ) → n < l.number → KeepsAsset l.self l.config n
