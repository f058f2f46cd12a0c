use Rattle.std.proofs.Common.{◌≡◌}
use Rattle.ilp_next_period.proofs.NextSteps.{next_below}
use Rattle.ilp_next_period.proofs.ending_period.EndingPeriod.next_open.Given as goal

-- it is the least of those to the peers so far
abbrev pub invariant-loop-peer : goal.invariant-loop-peer
invariant-loop-peer g l = l.least ≡ next_below l.self.entries l.tried l.peer
