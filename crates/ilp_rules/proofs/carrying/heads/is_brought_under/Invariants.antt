use Rattle.ilp_rules.proofs.PendingKeys.{IsSoughtFrom}
use Rattle.ilp_rules.proofs.carrying.heads.is_brought_under.Given as goal

-- no entry so far has the key
abbrev pub invariant-loop-number : goal.invariant-loop-number
invariant-loop-number g l = IsSoughtFrom l.journal.entries l.key l.number
