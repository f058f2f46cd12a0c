use Rattle.ilp_serve.proofs.Leading.{Reaches}
use Rattle.ilp_serve.proofs.periods.Periods.run.Given as goal

-- From the first period these have come to the one that begins.
abbrev pub invariant-loop : goal.invariant-loop
invariant-loop g l = Reaches l.fn.first.book l.next.period.book
