use Rattle.std.proofs.Common.{sym, ◌∙◌, subst, arith}
use mathlib.Core.List.{IsPrefix}
use Rattle.ilp_journal.specs.Journal.{Entries}
use Rattle.ilp_line_file.specs.Device.{LeavesOnly}
use Rattle.ilp_line_file.specs.Text.{IsBetween}
use Rattle.ilp_log.specs.Lines.{lines_of}
use Rattle.ilp_log.specs.Log.{written}
use Rattle.ilp_log.proofs.Begins.{prefix_length}
use Rattle.ilp_log.proofs.Logs.{sees, stays}
use Rattle.ilp_log.proofs.open_log.OpenLog.see.Goals as goal

pub invariant_of-self : goal.invariant_of-self
invariant_of-self g c =
    let longer : IsPrefix c.self.inside.receipt c.show.new.receipt = subst (λ (l : Entries). IsPrefix c.self.inside.receipt l) (sym c.show.ensures.seen) c.show.ensures.begins in
    (c.self.invariant.0, omega (arith, c.self.invariant.1, prefix_length c.self.inside.receipt c.show.new.receipt longer), λ holds. sees g.D.Device.seen g.D.Device.may_leave g.D.Device.moment g.D.Device.left_since g.K.LogNaming.form c.self.inside.file c.self.inside.failed c.self.inside.receipt c.show.new.receipt c.self.inside.count c.self.inside.acks longer (c.self.invariant.2 holds), c.self.invariant.3, c.self.invariant.4)

pub returns-clause-any_moment : goal.returns-clause-any_moment
returns-clause-any_moment g c holds =
    let is = stays g.D.Device.seen g.D.Device.may_leave g.D.Device.moment g.D.Device.left_since g.K.LogNaming.form c.self.inside.file c.self.inside.failed c.self.inside.receipt c.args.book.now.entries c.self.inside.count c.self.inside.acks (g.met.D.Device.only_now holds c.self.inside.file.device) c.show.ensures.begins (c.self.invariant.2 holds) in
    subst (λ v. LeavesOnly g.D.Device.moment g.D.Device.left_since v.device c.self.inside.file.device (IsBetween (lines_of g.K.LogNaming.form (written v)) (lines_of g.K.LogNaming.form c.args.book.now.entries))) c.self.view_is is

pub returns-clause-config : goal.returns-clause-config
returns-clause-config g c = c.show.ensures.of_desk.config ∙ sym c.self.invariant.0
