use Rattle.std.proofs.Common.{◌≤◌}
use Rattle.ilp_log.specs.Lines.{AreLinesOf}
use Rattle.ilp_log.proofs.group.lines_between.Given as goal

-- the lines so far
abbrev pub invariant-loop-number : goal.invariant-loop-number
invariant-loop-number l = (l.fn.from ≤ l.number) × AreLinesOf l.book.config l.book.entries l.fn.from l.number l.text.items
