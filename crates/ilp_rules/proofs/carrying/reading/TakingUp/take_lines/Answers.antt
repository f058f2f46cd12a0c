use Rattle.std.proofs.Common.{refl, sym, ap, subst}
use Rattle.std.specs.Option.{IsNone}
use Rattle.std.proofs.lemmas.Result.{err_from_is_err_and}
use Rattle.ilp_rules.proofs.TakingUp.{lines_go_on, lines_end, line_is_bad}
use Rattle.ilp_rules.proofs.carrying.reading.TakingUp.take_lines.Goals as goal

pub loop-entry-preserved : goal.loop-entry-preserved
loop-entry-preserved g c = λ C period before start.
    lines_go_on C period before c.args.text.now _ c.loop-entry.lines c.next.new.self c.loop-entry.self.carrying c.take.new.self.carrying c.loop-entry.self.taken c.take.new.self.taken
    c.in_ok-entry.field-0 c.in-Some.entry (c.loop-entry.invariant C period before start) c.in_ok-entry.ensures.entry c.in-Some.is (ap (λ s. s.carrying.config) c.self.view_is)
    (λ j state. c.take.ensures C period j state)

pub returns-clause-ok : goal.returns-clause-ok
returns-clause-ok g c = λ C period before start.
    lines_end C period before c.args.text.now c.loop-entry.lines c.loop-entry.self.carrying c.loop-entry.self.taken (c.loop-entry.invariant C period before start)
    (c.in_ok-entry.ensures.end (subst IsNone (sym c.in_default.is) refl))

-- a bad line is told wherever it comes
pub returns-in_err-entry-clause-err : goal.returns-in_err-entry-clause-err
returns-in_err-entry-clause-err g c = λ C period before start.
    let p = err_from_is_err_and c.from_residual.result c.from_residual.ensures.1 in
    rw (p.1, p.2) (line_is_bad C period before c.args.text.now _ c.loop-entry.lines c.loop-entry.self.carrying c.loop-entry.self.taken c.in_err-entry.field-0.0
    (c.loop-entry.invariant C period before start) (ap (λ s. s.carrying.config) c.self.view_is) c.in_err-entry.ensures.err)
