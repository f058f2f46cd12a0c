use Rattle.std.specs.Prelude.{ℕ, ◌<◌}
use Rattle.ilp_desk.specs.Gathering.{Agrees}
use Rattle.ilp_desk.proofs.gathering.differing.Given as goal

abbrev pub invariant-loop-actor : goal.invariant-loop-actor
invariant-loop-actor g l = (a : ℕ) → a < l.actor → Agrees l.book l.ends.items a
