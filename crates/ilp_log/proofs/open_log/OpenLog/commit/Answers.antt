use Rattle.std.proofs.Common.{◌≤◌, List, ℕ, length, sym, ◌∙◌, ap, subst, arith}
use mathlib.Core.List.{IsPrefix}
use Rattle.ilp_journal.specs.Journal.{Entries}
use Rattle.ilp_line_file.specs.Text.{recovered}
use Rattle.ilp_log.specs.Lines.{lines_of}
use Rattle.ilp_grown_list.proofs.Begins.{prefix_trans}
use Rattle.ilp_log.proofs.Begins.{lines_begin, in_take}
use Rattle.ilp_log.proofs.Runs.{one_more_group, if_ok}
use Rattle.ilp_log.proofs.open_log.OpenLog.commit.Goals as goal

pub loop-alloc-preserved : goal.loop-alloc-preserved
loop-alloc-preserved g c =
    let i = c.loop-alloc.invariant in
    let w = c.write_or_look-in-loop-alloc.ensures in
    let seen : IsPrefix c.args.self.now.seen c.loop-alloc.self.seen = subst (λ (l : Entries). IsPrefix c.args.self.now.seen l) (sym i.seen) i.mine in
    record {
      begins = prefix_trans _ _ _ i.begins w.begins;
      upto = i.upto;
      seen = w.seen;
      mine = prefix_trans _ _ _ i.mine w.begins;
      first = i.first;
      count = omega (arith, i.count, w.count);
      leaves = λ holds. one_more_group g.D.Device.moment g.D.Device.left_since g.K.LogNaming.form c.args.self.now.device c.loop-alloc.self.device c.write_or_look-in-loop-alloc.new.self.device c.args.self.now.seen c.loop-alloc.self.seen c.loop-alloc.receipt c.write_or_look-in-loop-alloc.new.receipt
          c.args.self.now.count c.loop-alloc.self.count i.first i.mine w.begins seen i.count (i.leaves holds) (w.any_moment holds);
    }

pub returns-in_err-write_or_look-2-clause-any_moment : goal.returns-in_err-write_or_look-2-clause-any_moment
returns-in_err-write_or_look-2-clause-any_moment g c holds =
    let i = c.loop-alloc.invariant in
    let w = c.write_or_look-in-loop-alloc.ensures in
    let seen : IsPrefix c.args.self.now.seen c.loop-alloc.self.seen = subst (λ (l : Entries). IsPrefix c.args.self.now.seen l) (sym i.seen) i.mine in
    one_more_group g.D.Device.moment g.D.Device.left_since g.K.LogNaming.form c.args.self.now.device c.loop-alloc.self.device c.write_or_look-in-loop-alloc.new.self.device c.args.self.now.seen c.loop-alloc.self.seen c.loop-alloc.receipt c.write_or_look-in-loop-alloc.new.receipt
    c.args.self.now.count c.loop-alloc.self.count i.first i.mine w.begins seen i.count (i.leaves holds) (w.any_moment holds)

pub returns-clause-kept : goal.returns-clause-kept
returns-clause-kept g c holds =
    let i = c.loop-alloc.invariant in
    let enough : length c.args.receipt.now ≤ c.loop-alloc.self.count = omega (arith, i.upto, c.count.ensures.value, c.loop-alloc-test.false) in
    let seen : IsPrefix c.args.receipt.now c.loop-alloc.self.seen = subst (λ (l : Entries). IsPrefix c.args.receipt.now l) (sym i.seen) i.begins in
    let begins = lines_begin g.K.LogNaming.form _ _ (in_take c.args.receipt.now c.loop-alloc.self.seen c.loop-alloc.self.count seen enough) in
    let same = sym c.tell.ensures.same in
    if_ok _ _ c.tell.result (λ k is. record {
      has = subst (λ (l : List (List ℕ)). IsPrefix (lines_of g.K.LogNaming.form c.args.receipt.now) l) (sym is.same) begins;
      when = is.when ∙ ap (λ v. g.D.Device.moment v.device) same;
      read = ap (λ v. recovered (g.D.Device.seen v.device)) (sym same) ∙ is.read;
    }) (c.tell.ensures.kept holds)
