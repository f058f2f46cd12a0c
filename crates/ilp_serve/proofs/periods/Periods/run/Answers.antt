use Rattle.std.proofs.lemmas.Result.{err_from_is_err_and}
use Rattle.ilp_serve.proofs.Leading.{ends_behind, reaches_first, reaches_next}
use Rattle.ilp_serve.proofs.periods.Periods.run.Goals as goal

-- It could not listen, so the first period is the last.
pub returns-in_err-sides-clause-refused : goal.returns-in_err-sides-clause-refused
returns-in_err-sides-clause-refused g c =
    let first = c.args.first.book in
    let p = err_from_is_err_and c.from_residual.result c.from_residual.ensures.1 in
    rw (p.1, p.2) (ends_behind first first c.in_err-sides.field-0.0 (reaches_first first) c.in_err-sides.ensures.refused)

-- No next period could be begun.
pub returns-in_err-next-clause-refused : goal.returns-in_err-next-clause-refused
returns-in_err-next-clause-refused g c =
    let p = err_from_is_err_and c.from_residual-in_err-next.result c.from_residual-in_err-next.ensures.1 in
    rw (p.1, p.2) (ends_behind c.args.first.book c.loop.next.period.book c.in_err-next.field-0.0 c.loop.invariant c.in_err-next.ensures.refused)

pub loop-preserved : goal.loop-preserved
loop-preserved g c =
    reaches_next c.args.first.book c.loop.next.period.book c.in_ok-run.field-0.run.book c.in_ok-next.next.period.book c.loop.invariant c.in_ok-run.ensures.closed c.in_ok-next.ensures.follows
