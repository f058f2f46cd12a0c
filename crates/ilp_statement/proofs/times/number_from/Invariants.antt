use Rattle.ilp_statement.proofs.Sought.{IsSoughtFrom}
use Rattle.ilp_statement.proofs.times.number_from.Given as goal

-- All entries so far are before the moment.
abbrev pub invariant-loop-number : goal.invariant-loop-number
invariant-loop-number g l = IsSoughtFrom l.book.entries l.moment l.number
