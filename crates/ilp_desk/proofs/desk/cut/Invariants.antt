use Rattle.std.specs.Prelude.{◌≡◌, ◌+◌, ◌≤◌, vec_len, vec_capacity, map}
use Rattle.std.specs.List.{range_with_len}
use Rattle.ilp_desk.specs.Portion.{portion}
use Rattle.ilp_desk.proofs.desk.cut.Given as goal

abbrev pub invariant-loop-actor : goal.invariant-loop-actor
invariant-loop-actor g l =
    (l.rest.parts + l.actor ≡ l.fn.actors) × (l.rest.amount ≡ 0) × (vec_len l.shares ≡ l.actor) × (l.fn.actors ≤ vec_capacity l.shares) × (l.shares.items ≡ map (λ actor. portion actor 0) (range_with_len 0 l.actor))
