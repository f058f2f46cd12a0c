use Rattle.std.proofs.Common.{sym, subst, to_z, of_z}
use Rattle.std.specs.Int.{w64}
use Rattle.std.proofs.lemmas.Int.{to_z-of_z}
use Rattle.std.proofs.lemmas.Result.{err_from_is_err_and}
use Rattle.ilp_rules.specs.Recover.{IsWhyNotRecovered}
use Rattle.ilp_rules.proofs.Recovered.{saved_is_bad, logged_is_bad, unless_err, came_of, why_stopped, all_recovered}
use Rattle.ilp_rules.proofs.beginning.Beginning.recover.Goals as goal

-- the text is bad
pub returns-in-Err-clause-err : goal.returns-in-Err-clause-err
returns-in-Err-clause-err g c =
    let C = c.args.config.now in
    subst (IsWhyNotRecovered C c.args.saved.now c.args.logged.now) (sym c.of_saved.ensures) (saved_is_bad C c.args.saved.now c.args.logged.now c.in-Err.fault c.in-Err.ensures.err)

-- what was logged is bad
pub returns-in-Err-take_lines-clause-err : goal.returns-in-Err-take_lines-clause-err
returns-in-Err-take_lines-clause-err g c =
    let C = c.args.config.now in
    let of_text = c.in-Ok.ensures.ok in
    subst (IsWhyNotRecovered C c.args.saved.now c.args.logged.now) (sym c.of_logged.ensures)
    (logged_is_bad C c.args.saved.now c.args.logged.now c.in-Err-take_lines.fault of_text.0 of_text.1 of_text.2 (c.in-Err-take_lines.ensures.err C of_text.0 of_text.1 of_text.3))

-- an entry isn't lawful, or memory is short
pub returns-in_err-taken-clause-err : goal.returns-in_err-taken-clause-err
returns-in_err-taken-clause-err g c =
    let C = c.args.config.now in
    let came = came_of C c.args.saved.now c.args.logged.now c.in-Ok.taking.carrying c.take_lines.new.self.carrying c.in-Ok.taking.taken c.take_lines.new.self.taken c.in-Ok.ensures.ok
    (λ period before so_far. unless_err c.take_lines.result _ c.in_default.not-Err (c.take_lines.ensures.ok C period before so_far)) in
    let p = err_from_is_err_and c.from_residual.result c.from_residual.ensures.1 in
    rw (p.1, p.2) (why_stopped C c.args.saved.now c.args.logged.now c.take_lines.new.self.carrying c.take_lines.new.self.taken c.in_err-taken.field-0.0 came c.in_err-taken.was)

pub returns-clause-ok : goal.returns-clause-ok
returns-clause-ok g c =
    let C = c.args.config.now in
    let came = came_of C c.args.saved.now c.args.logged.now c.in-Ok.taking.carrying c.take_lines.new.self.carrying c.in-Ok.taking.taken c.take_lines.new.self.taken c.in-Ok.ensures.ok
    (λ period before so_far. unless_err c.take_lines.result _ c.in_default.not-Err (c.take_lines.ensures.ok C period before so_far)) in
    all_recovered C c.args.saved.now c.args.logged.now c.args.now (to_z w64 (of_z w64 c.args.now)) c.take_lines.new.self.carrying c.end_holds.new.self c.begun_with.result c.take_lines.new.self.taken _
    came c.in_ok-taken.was (to_z-of_z w64 c.args.now c.ranges.now) c.end_holds.ensures.lawful c.end_holds.ensures.ends c.begun_with.ensures
