use Rattle.std.proofs.Common.{length}
use Rattle.ilp_rules.proofs.TakingUp.{IsReading}
use Rattle.ilp_rules.proofs.carrying.reading.TakingUp.of_text.Given as goal

-- the entries that were read so far, and what came of them
abbrev pub invariant-loop-taking : goal.invariant-loop-taking
invariant-loop-taking g l = IsReading l.config l.initial.lines.period l.text l.lines l.taking.carrying l.taking.taken

-- less is left with each
abbrev pub decreases-loop-taking : goal.decreases-loop-taking
decreases-loop-taking g l = length l.lines.rest
