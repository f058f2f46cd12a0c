use Rattle.std.proofs.Common.{subst, refl, ap, inr}
use Rattle.std.specs.Prelude.{Ok}
use Rattle.ilp_accounts.specs.Configuration.{Configuration}
use Rattle.ilp_server.specs.declared.course.Course.TheVariants.{Answered}
use Rattle.ilp_server.specs.declared.target.Target.{Target}
use Rattle.ilp_server.specs.declared.target.Target.TheVariants as target
use Rattle.ilp_server.specs.declared.served.Served.TheVariants as served
use Rattle.ilp_server.specs.Targets.{AsksFor}
use Rattle.ilp_server.proofs.course.begin.Goals as goal

-- a close is served whole
pub returns-in-Some-Close-clause-begun : goal.returns-in-Some-Close-clause-begun
returns-in-Some-Close-clause-begun g c =
    let path = c.args.request.now.path.now in
    let asks = subst (λ (C : Configuration). AsksFor C c.args.side path c.in-Some-Close.field-0) c.config.ensures c.in-Some-Close.ensures in
    let closes = subst (λ (t : Target). AsksFor g.J.Naming.desk.config c.args.side path t) c.in-Some-Close.field-0-is asks in
    inr (target.Close, closes, (Ok served.Close, (refl, refl), refl, ap Answered (c.to_outcome-in-Some-Close.ensures c.args.flight.now.worker)))

-- a settlement or a correction is of no payouts
pub returns-in-Some-Settlement-clause-peer : goal.returns-in-Some-Settlement-clause-peer
returns-in-Some-Settlement-clause-peer g c = c.course_for.ensures.peer g.J.Naming.desk.config

pub returns-in-Some-Correction-clause-peer : goal.returns-in-Some-Correction-clause-peer
returns-in-Some-Correction-clause-peer g c = c.course_for-in-Some-Correction.ensures.peer g.J.Naming.desk.config
