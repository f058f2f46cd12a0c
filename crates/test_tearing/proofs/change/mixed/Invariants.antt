use Rattle.test_tearing.proofs.Mixing.{IsFront}
use Rattle.test_tearing.proofs.change.mixed.Given as goal

-- what has been left so far
abbrev pub invariant-loop-place : goal.invariant-loop-place
invariant-loop-place l = IsFront l.old l.octets l.place l.mixed.items
