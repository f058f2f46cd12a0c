use Rattle.std.proofs.Common.{◌≤◌, List, ℕ, length, sym, subst, arith}
use Rattle.ilp_log.specs.Lines.{IsGroup}
use Rattle.ilp_log.proofs.Anew.{anew_more}
use Rattle.ilp_log.proofs.open_log.OpenLog.put_anew.Goals as goal

pub returns-clause-anew : goal.returns-clause-anew
returns-clause-anew g c holds =
    let text = c.as_slice-text.result.now in
    let group : IsGroup g.K.LogNaming.form.config c.args.self.now.seen c.args.anew.count c.args.group.now.to text = subst (λ (t : List ℕ). IsGroup g.K.LogNaming.form.config c.args.self.now.seen c.args.anew.count c.args.group.now.to t) (sym c.as_slice-text.ensures.value) c.requires.group in
    let within : c.args.anew.count ≤ length c.args.self.now.seen = omega (arith, group.later, group.within) in
    anew_more g.K.LogNaming.form c.args.self.now.seen (g.D.Device.anew c.args.self.now.device) (g.D.Device.anew c.write_anew.new.self.device) text c.args.anew (record { count = c.args.group.now.to; end = c.in-Some.end }) group within (c.in_ok-write_anew.ensures.written holds) c.in-Some.ensures.1 (c.requires.anew holds)
