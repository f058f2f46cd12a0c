use Rattle.ilp_next_period.specs.NextPeriod.{HasLeft}
use Rattle.ilp_next_period.proofs.NextSteps.{openings_left}
use Rattle.ilp_next_period.proofs.ending_period.EndingPeriod.open_balances.Given as goal

-- the balances of the further peers are left
abbrev pub invariant-loop-place : goal.invariant-loop-place
invariant-loop-place g l = HasLeft l.self l.config l.now l.next (openings_left l.self l.config l.now l.place)
