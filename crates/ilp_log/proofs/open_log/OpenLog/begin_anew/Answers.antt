use Rattle.std.proofs.Common.{◌≡◌, ◌≤◌, ◌∙◌, ◌++◌, List, ℕ, true, length, ap, subst, arith}
use Rattle.ilp_log.specs.Log.{IsAnew}
use Rattle.ilp_log.proofs.Anew.{called, anew_begins}
use Rattle.ilp_log.proofs.open_log.OpenLog.begin_anew.Goals as goal

pub invariant_of-self : goal.invariant_of-self
invariant_of-self g c = (
  c.self.invariant.0,
  c.self.invariant.1,
  λ holds.
      let log = called g.D.Device.seen g.D.Device.may_leave g.D.Device.moment g.D.Device.left_since g.K.LogNaming.form c.self.inside.file (record { device = c.open_anew.new.self; end = c.self.inside.file.end }) c.self.inside.failed c.self.inside.receipt c.self.inside.count c.self.inside.acks (g.met.D.Device.only_now holds c.self.inside.file.device) (g.met.D.Device.counts_now holds c.open_anew.new.self) (c.open_anew.ensures.time holds) (c.open_anew.ensures.crash holds) (c.self.invariant.2 holds) in
      log,
  c.self.invariant.3,
  c.self.invariant.4,
)

pub invariant_of-self-in_err-write_anew : goal.invariant_of-self-in_err-write_anew
invariant_of-self-in_err-write_anew g c = (
  c.self.invariant.0,
  c.self.invariant.1,
  λ holds.
      let log = called g.D.Device.seen g.D.Device.may_leave g.D.Device.moment g.D.Device.left_since g.K.LogNaming.form c.self.inside.file (record { device = c.open_anew.new.self; end = c.self.inside.file.end }) c.self.inside.failed c.self.inside.receipt c.self.inside.count c.self.inside.acks (g.met.D.Device.only_now holds c.self.inside.file.device) (g.met.D.Device.counts_now holds c.open_anew.new.self) (c.open_anew.ensures.time holds) (c.open_anew.ensures.crash holds) (c.self.invariant.2 holds) in
      called g.D.Device.seen g.D.Device.may_leave g.D.Device.moment g.D.Device.left_since g.K.LogNaming.form (record { device = c.open_anew.new.self; end = c.self.inside.file.end }) (record { device = c.write_anew.new.self; end = c.self.inside.file.end }) true c.self.inside.receipt c.self.inside.count c.self.inside.acks (g.met.D.Device.only_now holds c.open_anew.new.self) (g.met.D.Device.counts_now holds c.write_anew.new.self) (c.write_anew.ensures.time holds) (c.write_anew.ensures.crash holds) log,
  c.self.invariant.3,
  c.self.invariant.4,
)

pub invariant_of-self-2 : goal.invariant_of-self-2
invariant_of-self-2 g c = (
  c.self.invariant.0,
  c.self.invariant.1,
  λ holds.
      let log = called g.D.Device.seen g.D.Device.may_leave g.D.Device.moment g.D.Device.left_since g.K.LogNaming.form c.self.inside.file (record { device = c.open_anew.new.self; end = c.self.inside.file.end }) c.self.inside.failed c.self.inside.receipt c.self.inside.count c.self.inside.acks (g.met.D.Device.only_now holds c.self.inside.file.device) (g.met.D.Device.counts_now holds c.open_anew.new.self) (c.open_anew.ensures.time holds) (c.open_anew.ensures.crash holds) (c.self.invariant.2 holds) in
      called g.D.Device.seen g.D.Device.may_leave g.D.Device.moment g.D.Device.left_since g.K.LogNaming.form (record { device = c.open_anew.new.self; end = c.self.inside.file.end }) (record { device = c.write_anew.new.self; end = c.self.inside.file.end }) true c.self.inside.receipt c.self.inside.count c.self.inside.acks (g.met.D.Device.only_now holds c.open_anew.new.self) (g.met.D.Device.counts_now holds c.write_anew.new.self) (c.write_anew.ensures.time holds) (c.write_anew.ensures.crash holds) log,
  c.self.invariant.3,
  c.self.invariant.4,
)

pub returns-clause-anew : goal.returns-clause-anew
returns-clause-anew g c holds =
    let start = c.self.inside.start in
    let within : start.base ≤ length c.self.inside.receipt = omega (arith, c.self.invariant.1, c.self.invariant.3) in
    let head = ap (λ (l : List ℕ). g.D.Device.anew c.open_anew.new.self ++ l) c.deref.ensures.value in
    let mine = anew_begins g.K.LogNaming.form c.self.inside.receipt start (g.D.Device.anew c.open_anew.new.self) (g.D.Device.anew c.write_anew.new.self) (c.self.invariant.4 holds) within (c.in_ok-open_anew.ensures.empty holds) (c.in_ok-write_anew.ensures.written holds ∙ head) in
    let here = subst (λ v. IsAnew g.K.LogNaming.form v.seen (g.D.Device.anew c.write_anew.new.self) (record { count = start.base; end = length start.head.items })) c.self.view_is mine in
    let size : length start.head.items ≡ c.len.result = omega (arith, start.head.ok.0, c.len.ensures) in
    subst (λ (n : ℕ). IsAnew g.K.LogNaming.form c.args.self.now.seen (g.D.Device.anew c.write_anew.new.self) (record { count = start.base; end = n })) size here
