use Rattle.std.proofs.Common.{◌≤◌, sym, ap, subst, arith}
use Rattle.ilp_journal.specs.Journal.{Entries}
use Rattle.ilp_line_file.specs.Device.{LeavesOnly}
use Rattle.ilp_line_file.specs.Text.{IsBetween}
use Rattle.ilp_log.specs.Lines.{lines_of}
use Rattle.ilp_log.specs.Log.{written}
use Rattle.ilp_grown_list.proofs.Begins.{prefix_self}
use Rattle.ilp_log.proofs.Runs.{one_more_group}
use Rattle.ilp_log.proofs.open_log.OpenLog.add_anew.Goals as goal

pub returns-clause-any_moment : goal.returns-clause-any_moment
returns-clause-any_moment g c holds =
    let l = c.copy_from.ensures in
    let later : c.args.self.now.count ≤ c.copy_from.new.self.count = omega (arith, ap (λ v. v.count) l.same) in
    let is = one_more_group g.D.Device.moment g.D.Device.left_since g.K.LogNaming.form c.args.self.now.device c.copy_from.new.self.device c.put_anew.new.self.device c.args.self.now.seen c.copy_from.new.self.seen c.copy_from.new.self.seen c.copy_from.new.self.seen
    c.args.self.now.count c.copy_from.new.self.count l.within l.mine (prefix_self c.copy_from.new.self.seen) l.mine later (l.any_moment holds) (c.put_anew.ensures.any_moment holds) in
    subst (λ (seen : Entries). LeavesOnly g.D.Device.moment g.D.Device.left_since c.args.self.now.device c.put_anew.new.self.device (IsBetween (lines_of g.K.LogNaming.form (written c.args.self.now)) (lines_of g.K.LogNaming.form seen))) (sym c.put_anew.ensures.seen) is
