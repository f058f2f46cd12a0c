use Rattle.ilp_log.proofs.Anew.{called}
use Rattle.ilp_log.proofs.open_log.OpenLog.write_anew.Goals as goal

pub invariant_of-self : goal.invariant_of-self
invariant_of-self g c = (
  c.self.invariant.0,
  c.self.invariant.1,
  λ holds. called g.D.Device.seen g.D.Device.may_leave g.D.Device.moment g.D.Device.left_since g.K.LogNaming.form c.self.inside.file _ c.self.inside.failed c.self.inside.receipt c.self.inside.count c.self.inside.acks (g.met.D.Device.only_now holds c.self.inside.file.device) (g.met.D.Device.counts_now holds c.write_anew.new.self) (c.write_anew.ensures.time holds) (c.write_anew.ensures.crash holds) (c.self.invariant.2 holds),
  c.self.invariant.3,
  c.self.invariant.4,
)

pub invariant_of-self-2 : goal.invariant_of-self-2
invariant_of-self-2 g c = (
  c.self.invariant.0,
  c.self.invariant.1,
  λ holds. called g.D.Device.seen g.D.Device.may_leave g.D.Device.moment g.D.Device.left_since g.K.LogNaming.form c.self.inside.file _ c.self.inside.failed c.self.inside.receipt c.self.inside.count c.self.inside.acks (g.met.D.Device.only_now holds c.self.inside.file.device) (g.met.D.Device.counts_now holds c.write_anew.new.self) (c.write_anew.ensures.time holds) (c.write_anew.ensures.crash holds) (c.self.invariant.2 holds),
  c.self.invariant.3,
  c.self.invariant.4,
)
