use Rattle.std.specs.Prelude.{◌≡◌}
use Rattle.test_scenes.proofs.connections.turns.settle_each.Given as goal

-- as many are pending as before
abbrev pub invariant-loop-step : goal.invariant-loop-step
invariant-loop-step g l = l.settler.pending ≡ l.fn.settler.pending
