use Rattle.std.proofs.Common.{◌≡◌, ◌+◌, ◌≤◌, length, refl, arith, length-take}
use Rattle.ilp_io.proofs.ReadingLemmas.{ConsumesFirst-after, ConsumesUpTo-of_first}
use Rattle.ilp_io.proofs.reading.read_to_limit.Goals as goal

pub returns-then-count-limit-clause-part : goal.returns-then-count-limit-clause-part
returns-then-count-limit-clause-part g c =
    let few : length c.loop-count.taken.items + c.in-Ok.count ≤ c.args.limit + 1 =
    omega (arith, c.loop-count.taken.ok.0, c.in-Ok.ensures.bound.0, length-take c.min-most.result c.loop-count.piece) in
    ConsumesUpTo-of_first _ _ _ _ few
    (ConsumesFirst-after _ _ _ _ _ _ _ c.loop-count.invariant.read c.in-Ok.ensures.octets.0 c.in-Ok.ensures.bound.1 refl)

pub returns-then-count-limit-clause-beyond : goal.returns-then-count-limit-clause-beyond
returns-then-count-limit-clause-beyond g c =
    let all : length c.loop-count.taken.items + c.in-Ok.count ≡ c.args.limit + 1 =
    omega (arith, c.loop-count.taken.ok.0, c.in-Ok.ensures.bound.0, length-take c.min-most.result c.loop-count.piece) in
    λ _. ConsumesFirst-after _ _ _ _ _ _ _ c.loop-count.invariant.read c.in-Ok.ensures.octets.0 c.in-Ok.ensures.bound.1 all

pub returns-in_default-extend_from_slice-clause-part : goal.returns-in_default-extend_from_slice-clause-part
returns-in_default-extend_from_slice-clause-part g c =
    let few : length c.loop-count.taken.items + c.in-Ok.count ≤ c.args.limit + 1 = omega (arith, c.loop-count.taken.ok.0) in
    ConsumesUpTo-of_first _ _ _ _ few
    (ConsumesFirst-after _ _ _ _ _ _ _ c.loop-count.invariant.read c.in-Ok.ensures.octets.0 c.in-Ok.ensures.bound.1 refl)
