use Rattle.ilp_next_period.specs.NextPeriod.{HasLeft}
use Rattle.ilp_next_period.proofs.NextSteps.{credits_left}
use Rattle.ilp_next_period.proofs.ending_period.EndingPeriod.bring_credits.Given as goal

-- the further credits are left
abbrev pub invariant-loop-number : goal.invariant-loop-number
invariant-loop-number g l = HasLeft l.self l.config l.now l.next (credits_left l.self l.config l.now l.number-index)
