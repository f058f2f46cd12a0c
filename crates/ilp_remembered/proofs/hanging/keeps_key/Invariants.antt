use Rattle.ilp_remembered.proofs.KeptKeys.{HasNoCreditOf}
use Rattle.ilp_remembered.proofs.hanging.keeps_key.Given as goal

-- no credit of the peer was among the entries so far
abbrev pub invariant-loop-number : goal.invariant-loop-number
invariant-loop-number l = HasNoCreditOf l.book.entries l.peer l.number
