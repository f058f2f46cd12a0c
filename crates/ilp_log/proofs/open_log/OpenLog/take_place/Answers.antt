use Rattle.std.proofs.Common.{◌≤◌, ◌∙◌, length, sym, subst, arith}
use Rattle.ilp_line_file.specs.Device.{LeavesOnly}
use Rattle.ilp_line_file.specs.Text.{IsBetween}
use Rattle.ilp_log.specs.Lines.{lines_of}
use Rattle.ilp_log.specs.Log.{IsAnew, written}
use Rattle.ilp_log.proofs.Logs.{fails, renewed}
use Rattle.ilp_log.proofs.Anew.{old_or_new}
use Rattle.ilp_log.proofs.open_log.OpenLog.take_place.Goals as goal

pub invariant_of-self : goal.invariant_of-self
invariant_of-self g c =
    let later : c.self.inside.count ≤ c.args.anew.count = subst (λ v. v.count ≤ c.args.anew.count) (sym c.self.view_is) c.requires.later in (
      c.self.invariant.0,
      c.self.invariant.1,
      λ holds.
          let log = c.self.invariant.2 holds in
          let mine = subst (λ v. IsAnew g.K.LogNaming.form v.seen (g.D.Device.anew v.device) c.args.anew) (sym c.self.view_is) (c.requires.anew holds) in
          let is = old_or_new g.D.Device.seen g.D.Device.may_leave g.D.Device.moment g.D.Device.left_since g.K.LogNaming.form c.self.inside.file c.take_place.new.self.device c.self.inside.failed c.self.inside.receipt c.self.inside.count c.self.inside.acks (g.D.Device.anew c.self.inside.file.device) c.args.anew log later mine (c.take_place.ensures.any_moment holds) in
          fails g.D.Device.seen g.D.Device.may_leave g.D.Device.moment g.D.Device.left_since g.K.LogNaming.form c.self.inside.file c.take_place.new.self c.self.inside.failed c.self.inside.receipt c.self.inside.count c.self.inside.acks (g.met.D.Device.counts_now holds c.take_place.new.self.device) is log,
      c.self.invariant.3,
      c.self.invariant.4,
    )

pub returns-in_err-take_place-clause-any_moment : goal.returns-in_err-take_place-clause-any_moment
returns-in_err-take_place-clause-any_moment g c holds =
    let later : c.self.inside.count ≤ c.args.anew.count = subst (λ v. v.count ≤ c.args.anew.count) (sym c.self.view_is) c.requires.later in
    let mine = subst (λ v. IsAnew g.K.LogNaming.form v.seen (g.D.Device.anew v.device) c.args.anew) (sym c.self.view_is) (c.requires.anew holds) in
    let is = old_or_new g.D.Device.seen g.D.Device.may_leave g.D.Device.moment g.D.Device.left_since g.K.LogNaming.form c.self.inside.file c.take_place.new.self.device c.self.inside.failed c.self.inside.receipt c.self.inside.count c.self.inside.acks (g.D.Device.anew c.self.inside.file.device) c.args.anew (c.self.invariant.2 holds) later mine (c.take_place.ensures.any_moment holds) in
    subst (λ v. LeavesOnly g.D.Device.moment g.D.Device.left_since v.device c.take_place.new.self.device (IsBetween (lines_of g.K.LogNaming.form (written v)) (lines_of g.K.LogNaming.form v.seen))) c.self.view_is is

pub invariant_of-self-2 : goal.invariant_of-self-2
invariant_of-self-2 g c =
    let later : c.self.inside.count ≤ c.args.anew.count = subst (λ v. v.count ≤ c.args.anew.count) (sym c.self.view_is) c.requires.later in
    let within = subst (λ v. c.args.anew.count ≤ length v.seen) (sym c.self.view_is) c.requires.within in (
      c.self.invariant.0,
      within,
      λ holds.
          let log = c.self.invariant.2 holds in
          let mine = subst (λ v. IsAnew g.K.LogNaming.form v.seen (g.D.Device.anew v.device) c.args.anew) (sym c.self.view_is) (c.requires.anew holds) in
          let is = old_or_new g.D.Device.seen g.D.Device.may_leave g.D.Device.moment g.D.Device.left_since g.K.LogNaming.form c.self.inside.file c.take_place.new.self.device c.self.inside.failed c.self.inside.receipt c.self.inside.count c.self.inside.acks (g.D.Device.anew c.self.inside.file.device) c.args.anew log later mine (c.take_place.ensures.any_moment holds) in
          renewed g.D.Device.seen g.D.Device.may_leave g.D.Device.moment g.D.Device.left_since g.K.LogNaming.form c.self.inside.file c.take_place.new.self c.self.inside.failed c.self.inside.receipt c.self.inside.count c.args.anew.count c.self.inside.acks later within is (c.in_ok-take_place.ensures.settled holds) (c.in_ok-take_place.ensures.lines holds ∙ mine.read) log,
      omega (arith, c.self.invariant.3, later),
      c.self.invariant.4,
    )

pub returns-clause-any_moment : goal.returns-clause-any_moment
returns-clause-any_moment g c holds =
    let later : c.self.inside.count ≤ c.args.anew.count = subst (λ v. v.count ≤ c.args.anew.count) (sym c.self.view_is) c.requires.later in
    let mine = subst (λ v. IsAnew g.K.LogNaming.form v.seen (g.D.Device.anew v.device) c.args.anew) (sym c.self.view_is) (c.requires.anew holds) in
    let is = old_or_new g.D.Device.seen g.D.Device.may_leave g.D.Device.moment g.D.Device.left_since g.K.LogNaming.form c.self.inside.file c.take_place.new.self.device c.self.inside.failed c.self.inside.receipt c.self.inside.count c.self.inside.acks (g.D.Device.anew c.self.inside.file.device) c.args.anew (c.self.invariant.2 holds) later mine (c.take_place.ensures.any_moment holds) in
    subst (λ v. LeavesOnly g.D.Device.moment g.D.Device.left_since v.device c.take_place.new.self.device (IsBetween (lines_of g.K.LogNaming.form (written v)) (lines_of g.K.LogNaming.form v.seen))) c.self.view_is is
