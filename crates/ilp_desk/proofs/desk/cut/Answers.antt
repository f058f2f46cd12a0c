use Rattle.std.proofs.Common.{arith}
use Rattle.std.proofs.lemmas.Grind.{common_steps}
use Rattle.std.proofs.lemmas.List.FromFn.{map-range_with_len_more}
use Rattle.ilp_desk.specs.Portion.{portion}
use Rattle.ilp_desk.proofs.desk.cut.Goals as goal

-- one share more
pub loop-actor-preserved : goal.loop-actor-preserved
loop-actor-preserved g c =
    let more = map-range_with_len_more (λ actor. portion actor 0) 0 c.loop-actor.actor c.loop-actor.actor (omega arith) in
    (grind (arith, common_steps), grind (arith, common_steps), grind (arith, common_steps), grind (arith, common_steps), grind (arith, common_steps, more))
