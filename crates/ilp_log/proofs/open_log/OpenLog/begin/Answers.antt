use Rattle.std.proofs.Common.{◌≤◌, [], sym, ◌∙◌, subst, arith}
use Rattle.ilp_line_file.specs.Text.{AreLines}
use Rattle.ilp_line_file.proofs.Whole.{are_lines}
use Rattle.ilp_log.proofs.Logs.{opens, head_alone}
use Rattle.ilp_log.proofs.open_log.OpenLog.begin.Goals as goal

-- the file has the head alone
pub invariant_of-result : goal.invariant_of-result
invariant_of-result g c =
    let base = c.requires.base in
    let alone = head_alone g.K.LogNaming.form c.args.receipt c.args.start.base base.0 base.1 in
    let least : g.K.LogNaming.form.base ≤ c.args.start.base = omega (arith, base.0) in (
      c.requires.config,
      base.1,
      λ holds. opens g.D.Device.seen g.D.Device.may_leave g.D.Device.moment g.D.Device.left_since g.K.LogNaming.form c.args.file c.args.receipt c.args.start.base c.args.acks least base.1 (c.requires.settled holds) (c.requires.head holds ∙ sym alone) c.requires.acks,
      omega arith,
      λ holds. record { text = c.requires.text holds; lines = subst AreLines (c.requires.head holds) (are_lines [] (g.D.Device.seen c.args.file.device) tt); base = base.0 },
    )
