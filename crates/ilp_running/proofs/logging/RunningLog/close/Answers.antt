use Rattle.std.proofs.Common.{sym, subst}
use Rattle.std.specs.Prelude.{Some}
use Rattle.ilp_running.specs.Logging.{told_at, EndsLog}
use Rattle.ilp_running.proofs.logging.RunningLog.close.Goals as goal
use Rattle.ilp_running.proofs.logging.RunningLog.close.Goals.{then-has_all, else-has_all}

-- The log is given back where it has all.
pub returns-clause-logged : goal.returns-clause-logged
returns-clause-logged g c claims =
    let D = g.D.Device in
    let form = g.K.LogNaming.form in
    let entries = c.args.book.entries in
    elim c.if-has_all.branch [
      | then-has_all w ↦ subst (λ log. EndsLog D.seen D.may_leave D.left_since form (told_at c.args.self.begun) entries log) (sym w.log2-is)
          (subst (λ d. EndsLog D.seen D.may_leave D.left_since form (told_at c.args.self.begun) entries (Some d)) (sym w.into_device.ensures)
          (c.has_all.ensures.logged claims w.if-has_all.true))
      | else-has_all w ↦ subst (λ log. EndsLog D.seen D.may_leave D.left_since form (told_at c.args.self.begun) entries log) (sym w.log2-is) tt
    ]
