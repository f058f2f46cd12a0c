use Rattle.std.specs.Prelude.{◌≡◌}
use Rattle.test_scenes.proofs.workers.many.forward_many.Given as goal

-- as many wait as before
abbrev pub invariant-loop-packet : goal.invariant-loop-packet
invariant-loop-packet g l = l.worker.pending ≡ l.fn.worker.pending
