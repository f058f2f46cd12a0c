use Rattle.ilp_serve.proofs.Alone.{alone_as}
use Rattle.ilp_serve.proofs.begun.begun_with.Goals as goal

-- The log has its head alone.
pub invariant_of-result-clause-alone : goal.invariant_of-result-clause-alone
invariant_of-result-clause-alone g c claims = alone_as g.D.Device.seen g.D.Device.may_leave c.args.log (c.requires.alone claims)
