use Rattle.std.proofs.Common.{List, ℕ, Bool, false, sym, subst, arith}
use Rattle.ilp_line_file.specs.Device.{LeavesOnly}
use Rattle.ilp_line_file.specs.Text.{IsBetween}
use Rattle.ilp_log.specs.Lines.{lines_of, IsGroup}
use Rattle.ilp_log.specs.Log.{written, IsLog}
use Rattle.ilp_log.proofs.Logs.{group_text, leaves, fails, goes_on}
use Rattle.ilp_log.proofs.open_log.OpenLog.put.Goals as goal

pub append-requires-clause-text : goal.append-requires-clause-text
append-requires-clause-text g c =
    let group : IsGroup g.K.LogNaming.form.config c.args.self.now.seen c.args.self.now.count c.args.group.now.to c.as_slice-text.result.now = subst (λ (t : List ℕ). IsGroup g.K.LogNaming.form.config c.args.self.now.seen c.args.self.now.count c.args.group.now.to t) (sym c.as_slice-text.ensures.value) c.requires in
    group_text g.K.LogNaming.form _ _ _ _ group

pub returns-in-Ok-clause-any_moment : goal.returns-in-Ok-clause-any_moment
returns-in-Ok-clause-any_moment g c holds =
    let text = c.as_slice-text.result.now in
    let group : IsGroup g.K.LogNaming.form.config c.args.self.now.seen c.args.self.now.count c.args.group.now.to text = subst (λ (t : List ℕ). IsGroup g.K.LogNaming.form.config c.args.self.now.seen c.args.self.now.count c.args.group.now.to t) (sym c.as_slice-text.ensures.value) c.requires in
    let mine : IsGroup g.K.LogNaming.form.config c.self.inside.receipt c.self.inside.count c.args.group.now.to text = subst (λ v. IsGroup g.K.LogNaming.form.config v.seen v.count c.args.group.now.to text) (sym c.self.view_is) group in
    let log = subst (λ (b : Bool). IsLog g.D.Device.seen g.D.Device.may_leave g.D.Device.moment g.D.Device.left_since g.K.LogNaming.form c.self.inside.file b c.self.inside.receipt c.self.inside.count c.self.inside.acks) c.if-self.false (c.self.invariant.2 holds) in
    let is = leaves g.D.Device.seen g.D.Device.may_leave g.D.Device.moment g.D.Device.left_since g.K.LogNaming.form c.self.inside.file c.append.new.self.device c.self.inside.receipt c.self.inside.count c.args.group.now.to text c.self.inside.acks log mine (c.append.ensures.any_moment holds) in
    subst (λ v. LeavesOnly g.D.Device.moment g.D.Device.left_since v.device c.append.new.self.device (IsBetween (lines_of g.K.LogNaming.form (written v)) (lines_of g.K.LogNaming.form v.seen))) c.self.view_is is

pub returns-in-Err-clause-any_moment : goal.returns-in-Err-clause-any_moment
returns-in-Err-clause-any_moment g c holds =
    let text = c.as_slice-text.result.now in
    let group : IsGroup g.K.LogNaming.form.config c.args.self.now.seen c.args.self.now.count c.args.group.now.to text = subst (λ (t : List ℕ). IsGroup g.K.LogNaming.form.config c.args.self.now.seen c.args.self.now.count c.args.group.now.to t) (sym c.as_slice-text.ensures.value) c.requires in
    let mine : IsGroup g.K.LogNaming.form.config c.self.inside.receipt c.self.inside.count c.args.group.now.to text = subst (λ v. IsGroup g.K.LogNaming.form.config v.seen v.count c.args.group.now.to text) (sym c.self.view_is) group in
    let log = subst (λ (b : Bool). IsLog g.D.Device.seen g.D.Device.may_leave g.D.Device.moment g.D.Device.left_since g.K.LogNaming.form c.self.inside.file b c.self.inside.receipt c.self.inside.count c.self.inside.acks) c.if-self.false (c.self.invariant.2 holds) in
    let is = leaves g.D.Device.seen g.D.Device.may_leave g.D.Device.moment g.D.Device.left_since g.K.LogNaming.form c.self.inside.file c.append.new.self.device c.self.inside.receipt c.self.inside.count c.args.group.now.to text c.self.inside.acks log mine (c.append.ensures.any_moment holds) in
    subst (λ v. LeavesOnly g.D.Device.moment g.D.Device.left_since v.device c.append.new.self.device (IsBetween (lines_of g.K.LogNaming.form (written v)) (lines_of g.K.LogNaming.form v.seen))) c.self.view_is is

pub invariant_of-self-in-Err : goal.invariant_of-self-in-Err
invariant_of-self-in-Err g c =
    let text = c.as_slice-text.result.now in
    let group : IsGroup g.K.LogNaming.form.config c.args.self.now.seen c.args.self.now.count c.args.group.now.to text = subst (λ (t : List ℕ). IsGroup g.K.LogNaming.form.config c.args.self.now.seen c.args.self.now.count c.args.group.now.to t) (sym c.as_slice-text.ensures.value) c.requires in
    let mine : IsGroup g.K.LogNaming.form.config c.self.inside.receipt c.self.inside.count c.args.group.now.to text = subst (λ v. IsGroup g.K.LogNaming.form.config v.seen v.count c.args.group.now.to text) (sym c.self.view_is) group in (
      c.self.invariant.0,
      c.self.invariant.1,
      λ holds.
          let log = subst (λ (b : Bool). IsLog g.D.Device.seen g.D.Device.may_leave g.D.Device.moment g.D.Device.left_since g.K.LogNaming.form c.self.inside.file b c.self.inside.receipt c.self.inside.count c.self.inside.acks) c.if-self.false (c.self.invariant.2 holds) in
          let is = leaves g.D.Device.seen g.D.Device.may_leave g.D.Device.moment g.D.Device.left_since g.K.LogNaming.form c.self.inside.file c.append.new.self.device c.self.inside.receipt c.self.inside.count c.args.group.now.to text c.self.inside.acks log mine (c.append.ensures.any_moment holds) in
          fails g.D.Device.seen g.D.Device.may_leave g.D.Device.moment g.D.Device.left_since g.K.LogNaming.form c.self.inside.file c.append.new.self false c.self.inside.receipt c.self.inside.count c.self.inside.acks (g.met.D.Device.counts_now holds c.append.new.self.device) is log,
      c.self.invariant.3,
      c.self.invariant.4,
    )

pub invariant_of-self : goal.invariant_of-self
invariant_of-self g c =
    let text = c.as_slice-text.result.now in
    let group : IsGroup g.K.LogNaming.form.config c.args.self.now.seen c.args.self.now.count c.args.group.now.to text = subst (λ (t : List ℕ). IsGroup g.K.LogNaming.form.config c.args.self.now.seen c.args.self.now.count c.args.group.now.to t) (sym c.as_slice-text.ensures.value) c.requires in
    let mine : IsGroup g.K.LogNaming.form.config c.self.inside.receipt c.self.inside.count c.args.group.now.to text = subst (λ v. IsGroup g.K.LogNaming.form.config v.seen v.count c.args.group.now.to text) (sym c.self.view_is) group in (
      c.self.invariant.0,
      mine.within,
      λ holds.
          let log = subst (λ (b : Bool). IsLog g.D.Device.seen g.D.Device.may_leave g.D.Device.moment g.D.Device.left_since g.K.LogNaming.form c.self.inside.file b c.self.inside.receipt c.self.inside.count c.self.inside.acks) c.if-self.false (c.self.invariant.2 holds) in
          let is = leaves g.D.Device.seen g.D.Device.may_leave g.D.Device.moment g.D.Device.left_since g.K.LogNaming.form c.self.inside.file c.append.new.self.device c.self.inside.receipt c.self.inside.count c.args.group.now.to text c.self.inside.acks log mine (c.append.ensures.any_moment holds) in
          goes_on g.D.Device.seen g.D.Device.may_leave g.D.Device.moment g.D.Device.left_since g.K.LogNaming.form c.self.inside.file c.append.new.self c.self.inside.receipt c.self.inside.count c.args.group.now.to text c.self.inside.acks mine is (c.in-Ok.ensures.settled holds) (c.in-Ok.ensures.lines holds) log,
      omega (arith, c.self.invariant.3, mine.later),
      c.self.invariant.4,
    )
