use Rattle.std.proofs.Common.{◌-◌, ◌≤◌}
use Rattle.ilp_accounts.proofs.place.least_count.Given as goal

abbrev pub invariant-loop-enough : goal.invariant-loop-enough
invariant-loop-enough l = l.too_few ≤ l.enough

-- the numbers among which the sought one lies become fewer
abbrev pub decreases-loop-enough : goal.decreases-loop-enough
decreases-loop-enough l = l.enough - l.too_few
