use Rattle.std.proofs.Common.{◌≡◌}
use Rattle.ilp_follows.proofs.lines.lines_of.Given as goal

-- the lines so far
abbrev pub invariant-loop-line : goal.invariant-loop-line
invariant-loop-line l = l.lines.items ≡ l.yielded
