use Rattle.ilp_next_period.proofs.NextJudging.{AreSameAssets}
use Rattle.ilp_next_period.proofs.ending_period.EndingPeriod.judge_keys.Given as goal

-- each credit so far is of a peer whose asset stays
abbrev pub invariant-loop-number : goal.invariant-loop-number
invariant-loop-number g l = AreSameAssets l.self l.config l.number-index
