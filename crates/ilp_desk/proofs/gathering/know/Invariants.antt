use Rattle.std.specs.Prelude.{ℕ, ◌<◌}
use Rattle.std.proofs.Common.{get_or}
use Rattle.ilp_desk.specs.Desk.{IsActor}
use Rattle.ilp_desk.specs.Portion.{Holding}
use Rattle.ilp_desk.proofs.gathering.know.Given as goal

abbrev pub invariant-loop-end : goal.invariant-loop-end
invariant-loop-end g l = (k : ℕ) (d : Holding) → k < l.end-index → IsActor g.J.Naming.desk (get_or l.ends.items k d).share.actor
