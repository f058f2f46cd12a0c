use Rattle.std.proofs.Common.{sym, subst}
use Rattle.ilp_journal.specs.Journal.{Entries}
use Rattle.ilp_line_file.specs.Device.{LeavesOnly}
use Rattle.ilp_line_file.specs.Text.{IsBetween}
use Rattle.ilp_log.specs.Lines.{lines_of}
use Rattle.ilp_log.specs.Log.{written}
use Rattle.ilp_log.proofs.Runs.{one_more_group}
use Rattle.ilp_log.proofs.open_log.OpenLog.mend.Goals as goal

pub returns-clause-any_moment : goal.returns-clause-any_moment
returns-clause-any_moment g c holds =
    let r = c.renew_failed.ensures in
    let is = one_more_group g.D.Device.moment g.D.Device.left_since g.K.LogNaming.form c.args.self.now.device c.renew_failed.new.self.device c.commit.new.self.device c.args.self.now.seen c.renew_failed.new.self.seen c.renew_failed.new.self.seen c.commit.new.receipt
    c.args.self.now.count c.renew_failed.new.self.count r.first r.mine c.commit.ensures.mine r.mine r.count (r.any_moment holds) (c.commit.ensures.any_moment holds) in
    subst (λ (seen : Entries). LeavesOnly g.D.Device.moment g.D.Device.left_since c.args.self.now.device c.commit.new.self.device (IsBetween (lines_of g.K.LogNaming.form (written c.args.self.now)) (lines_of g.K.LogNaming.form seen))) (sym c.commit.ensures.last) is
