use Rattle.std.proofs.Common.{ℕ, ◌<◌, ◌^◌, [], length, refl, sym, ap, subst, rules}
use Rattle.std.specs.Option.{IsNone}
use Rattle.std.proofs.lemmas.Result.{err_from_is_err_and}
use Rattle.ilp_rules.specs.TakenUp.{AreTakenUp}
use Rattle.ilp_rules.proofs.TakingUp.{text_begins, text_goes_on, text_ends, text_is_bad, first_line_is_bad}
use Rattle.ilp_rules.proofs.carrying.reading.TakingUp.of_text.Goals as goal

-- a bad first line is told
pub returns-in_err-lines-clause-err : goal.returns-in_err-lines-clause-err
returns-in_err-lines-clause-err g c =
    let p = err_from_is_err_and c.from_residual.result c.from_residual.ensures.1 in
    rw (p.1, p.2) (first_line_is_bad c.args.config.now c.args.text.now c.in_err-lines.field-0.0 c.in_err-lines.ensures.err c.in_err-lines.ensures.fault)

pub loop-taking-init : goal.loop-taking-init
loop-taking-init g c =
    let lines = c.in_ok-lines.lines in
    text_begins c.args.config.now lines.period c.args.text.now lines c.in-Ok.taking.carrying c.in-Ok.taking.taken c.in_ok-lines.ensures.ok refl
    (subst (λ (n : ℕ). AreTakenUp c.args.config.now n [] c.in-Ok.taking.carrying c.in-Ok.taking.taken) c.period.ensures c.in-Ok.ensures)

pub loop-taking-preserved : goal.loop-taking-preserved
loop-taking-preserved g c =
    let C = c.args.config.now in
    let period = c.in_ok-lines.lines.period in
    text_goes_on C period c.args.text.now _ c.loop-taking.lines c.next.new.self c.loop-taking.taking.carrying c.take.new.self.carrying c.loop-taking.taking.taken c.take.new.self.taken
    c.in_ok-entry.field-0 c.in-Some.entry c.loop-taking.invariant c.in_ok-entry.ensures.entry c.in-Some.is (ap (λ s. s.carrying.config) c.taking.view_is)
    (λ j state. c.take.ensures C period j state)

pub returns-clause-ok : goal.returns-clause-ok
returns-clause-ok g c =
    text_ends c.args.config.now c.in_ok-lines.lines.period c.args.text.now c.loop-taking.lines c.loop-taking.taking.carrying c.loop-taking.taking.taken c.loop-taking.invariant
    (c.in_ok-entry.ensures.end (subst IsNone (sym c.in_default-2.is) refl))

-- and so is any other
pub returns-in_err-entry-clause-err : goal.returns-in_err-entry-clause-err
returns-in_err-entry-clause-err g c =
    let p = err_from_is_err_and c.from_residual-in_err-entry.result c.from_residual-in_err-entry.ensures.1 in
    let fits : length c.args.text.now < 2 ^ 64 = search rules in
    rw (p.1, p.2) (text_is_bad c.args.config.now c.in_ok-lines.lines.period c.args.text.now _ c.loop-taking.lines c.loop-taking.taking.carrying c.loop-taking.taking.taken c.in_err-entry.field-0.0
    c.taking.invariant.valid fits c.loop-taking.invariant (ap (λ s. s.carrying.config) c.taking.view_is) c.in_err-entry.ensures.err)
