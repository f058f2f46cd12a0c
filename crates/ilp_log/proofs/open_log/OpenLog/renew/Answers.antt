use Rattle.std.proofs.Common.{◌≤◌, ◌∙◌, arith}
use Rattle.ilp_grown_list.proofs.Begins.{prefix_trans}
use Rattle.ilp_log.proofs.Runs.{one_more_group}
use Rattle.ilp_log.proofs.open_log.OpenLog.renew.Goals as goal

pub loop-anew-preserved : goal.loop-anew-preserved
loop-anew-preserved g c =
    let i = c.loop-anew.invariant in
    let a = c.add_anew.ensures in
    let later : c.args.self.now.count ≤ c.loop-anew.self.count = omega (arith, i.count) in
    record {
      upto = i.upto;
      first = i.first;
      mine = prefix_trans _ _ _ i.mine a.mine;
      count = a.count ∙ i.count;
      within = c.in_ok-anew-2.ensures.within;
      anew = λ holds. c.in_ok-anew-2.ensures.anew holds;
      leaves = λ holds. one_more_group g.D.Device.moment g.D.Device.left_since g.K.LogNaming.form c.args.self.now.device c.loop-anew.self.device c.add_anew.new.self.device c.args.self.now.seen c.loop-anew.self.seen c.loop-anew.self.seen c.add_anew.new.self.seen
          c.args.self.now.count c.loop-anew.self.count i.first i.mine a.mine i.mine later (i.leaves holds) (a.any_moment holds);
    }

pub returns-in_err-anew-2-clause-any_moment : goal.returns-in_err-anew-2-clause-any_moment
returns-in_err-anew-2-clause-any_moment g c holds =
    let i = c.loop-anew.invariant in
    let a = c.add_anew.ensures in
    let later : c.args.self.now.count ≤ c.loop-anew.self.count = omega (arith, i.count) in
    one_more_group g.D.Device.moment g.D.Device.left_since g.K.LogNaming.form c.args.self.now.device c.loop-anew.self.device c.add_anew.new.self.device c.args.self.now.seen c.loop-anew.self.seen c.loop-anew.self.seen c.add_anew.new.self.seen
    c.args.self.now.count c.loop-anew.self.count i.first i.mine a.mine i.mine later (i.leaves holds) (a.any_moment holds)
