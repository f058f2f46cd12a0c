use Rattle.std.proofs.Common.{◌≡◌, take, sym, ◌∙◌, ap, subst, arith}
use Rattle.std.proofs.lemmas.List.{take_all}
use Rattle.ilp_journal.specs.Journal.{Entries}
use Rattle.ilp_line_file.specs.Device.{LeavesOnly}
use Rattle.ilp_line_file.specs.Text.{recovered, IsBetween}
use Rattle.ilp_log.specs.Lines.{lines_of}
use Rattle.ilp_log.specs.Log.{written}
use Rattle.ilp_grown_list.proofs.Begins.{prefix_self}
use Rattle.ilp_log.proofs.Runs.{one_more_group, if_ok}
use Rattle.ilp_log.proofs.open_log.OpenLog.commit_all.Goals as goal

pub loop-alloc-preserved : goal.loop-alloc-preserved
loop-alloc-preserved g c =
    let i = c.loop-alloc.invariant in
    let h = c.hand.ensures in
    record {
      book = h.book ∙ i.book;
      upto = i.upto;
      seen = c.put.ensures.seen ∙ ap (λ v. v.seen) h.seen ∙ (ap (λ b. b.entries) i.book);
      mine = i.mine;
      first = i.first;
      count = omega (arith, i.count, c.in_ok-group.ensures.group.later, c.in_ok-put.ensures.ok);
      leaves = λ holds.
          let put = subst (λ v. LeavesOnly g.D.Device.moment g.D.Device.left_since v.device c.put.new.self.device (IsBetween (lines_of g.K.LogNaming.form (written v)) (lines_of g.K.LogNaming.form v.seen))) h.seen (c.put.ensures.any_moment holds) in
          let put' = subst (λ (d : Entries). LeavesOnly g.D.Device.moment g.D.Device.left_since c.loop-alloc.self.device c.put.new.self.device (IsBetween (lines_of g.K.LogNaming.form (take c.loop-alloc.self.count d)) (lines_of g.K.LogNaming.form d))) (ap (λ b. b.entries) i.book) put in
          one_more_group g.D.Device.moment g.D.Device.left_since g.K.LogNaming.form c.args.self.now.device c.loop-alloc.self.device c.put.new.self.device c.args.self.now.seen c.args.book.now.entries c.args.book.now.entries c.args.book.now.entries
          c.args.self.now.count c.loop-alloc.self.count i.first i.mine (prefix_self c.args.book.now.entries) i.mine i.count (i.leaves holds) put';
    }

pub returns-in_err-put-clause-any_moment : goal.returns-in_err-put-clause-any_moment
returns-in_err-put-clause-any_moment g c holds =
    let i = c.loop-alloc.invariant in
    let h = c.hand.ensures in
    let put = subst (λ v. LeavesOnly g.D.Device.moment g.D.Device.left_since v.device c.put.new.self.device (IsBetween (lines_of g.K.LogNaming.form (written v)) (lines_of g.K.LogNaming.form v.seen))) h.seen (c.put.ensures.any_moment holds) in
    let put' = subst (λ (d : Entries). LeavesOnly g.D.Device.moment g.D.Device.left_since c.loop-alloc.self.device c.put.new.self.device (IsBetween (lines_of g.K.LogNaming.form (take c.loop-alloc.self.count d)) (lines_of g.K.LogNaming.form d))) (ap (λ b. b.entries) i.book) put in
    one_more_group g.D.Device.moment g.D.Device.left_since g.K.LogNaming.form c.args.self.now.device c.loop-alloc.self.device c.put.new.self.device c.args.self.now.seen c.args.book.now.entries c.args.book.now.entries c.args.book.now.entries
    c.args.self.now.count c.loop-alloc.self.count i.first i.mine (prefix_self c.args.book.now.entries) i.mine i.count (i.leaves holds) put'

pub returns-clause-kept : goal.returns-clause-kept
returns-clause-kept g c holds =
    let i = c.loop-alloc.invariant in
    let all : written c.loop-alloc.self ≡ c.args.book.now.entries =
    ap (λ (l : Entries). take c.loop-alloc.self.count l) i.seen ∙ take_all c.loop-alloc.self.count c.args.book.now.entries (omega (arith, i.upto, c.count.ensures.value, c.loop-alloc-test.false)) in
    let same = sym c.tell.ensures.same in
    if_ok _ _ c.tell.result (λ k is. record {
      same = is.same ∙ ap (lines_of g.K.LogNaming.form) all;
      when = is.when ∙ ap (λ v. g.D.Device.moment v.device) same;
      read = ap (λ v. recovered (g.D.Device.seen v.device)) (sym same) ∙ is.read;
    }) (c.tell.ensures.kept holds)
