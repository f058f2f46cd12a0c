use Rattle.std.specs.Prelude.{ℕ, ◌<◌, ◌≤◌}
use Rattle.ilp_desk.specs.Gathering.{holders}
use Rattle.ilp_desk.proofs.gathering.double.Given as goal

abbrev pub invariant-loop-actor : goal.invariant-loop-actor
invariant-loop-actor g l = (a : ℕ) → a < l.actor → holders a l.ends.items ≤ 1
