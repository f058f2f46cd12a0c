use Rattle.std.proofs.Common.{◌≡◌, ◌≤◌, length, take, not}
use Rattle.std.specs.Prelude.{filter, ◌==◌}
use Rattle.ilp_tallies.proofs.open_asks.OpenAsks.without.Given as goal

-- the others so far
abbrev pub invariant-loop-place : goal.invariant-loop-place
invariant-loop-place l = record {
  kept : l.left ≡ filter (λ number. not (number == l.closed)) (take l.place l.self-inside.numbers);
  few : length l.left ≤ l.place;
}
