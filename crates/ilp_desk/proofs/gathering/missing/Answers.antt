use Rattle.std.proofs.Common.{◌<◌, arith}
use borrow.Author.Count.{below_more}
use Rattle.ilp_desk.specs.Gathering.{holders}
use Rattle.ilp_desk.proofs.gathering.missing.Goals as goal

pub loop-actor-preserved : goal.loop-actor-preserved
loop-actor-preserved g c = below_more (λ a. 0 < holders a c.args.ends.now.items) c.loop-actor.actor c.loop-actor.invariant (omega (arith, c.holders.ensures))
