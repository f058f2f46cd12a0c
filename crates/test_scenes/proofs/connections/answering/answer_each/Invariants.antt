use Rattle.std.specs.Prelude.{◌≡◌}
use Rattle.test_scenes.proofs.connections.answering.answer_each.Given as goal

-- as many wait as before
abbrev pub invariant-loop-step : goal.invariant-loop-step
invariant-loop-step g l = l.worker.pending ≡ l.fn.worker.pending
