use Rattle.ilp_flow.specs.Fullest.{IsFullestOf}
use Rattle.ilp_flow.proofs.closing.newest_of_most.Given as goal

-- of those that were looked at
abbrev pub invariant-loop-place : goal.invariant-loop-place
invariant-loop-place l = IsFullestOf l.waiters l.place l.fullest
