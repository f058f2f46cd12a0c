use Rattle.std.proofs.Common.{◌+◌, ◌-◌, length, option_map, unwrap_or}
use Rattle.ilp_next_period.specs.NextPeriod.{HasLeft}
use Rattle.ilp_next_period.proofs.NextSteps.{settlements_left}
use Rattle.ilp_next_period.proofs.ending_period.EndingPeriod.bring_settlements.Given as goal

-- the open settlements behind the one that was tried last are left
abbrev pub invariant-loop-number : goal.invariant-loop-number
invariant-loop-number g l = HasLeft l.self l.config l.now l.next (settlements_left l.self l.config l.now l.tried)

-- fewer and fewer entries stand behind that one
abbrev pub decreases-loop-number : goal.decreases-loop-number
decreases-loop-number g l = unwrap_or (option_map (λ n. length l.self.entries - n) l.tried) (length l.self.entries + 1)
