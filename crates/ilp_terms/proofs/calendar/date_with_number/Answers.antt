use Rattle.std.proofs.Common.{◌≡◌, ◌≤◌, ◌∙◌, arith, to_z, of_z, to_z-of_z}
use Rattle.std.specs.Int.{w16, w64}
use Rattle.std.proofs.lemmas.Result.{IfOk-at_ok}
use Rattle.jiff_core.specs.Date.{epoch_day}
use Rattle.jiff_core.specs.declared.civil.date.Date.{Date}
use Rattle.ilp_terms.proofs.CalendarLemmas.{date_with, back_at}
use Rattle.ilp_terms.proofs.calendar.date_with_number.Goals as goal

pub overflow_cast-result : goal.overflow_cast-result
overflow_cast-result c =
    let found = IfOk-at_ok (λ (d : Date). epoch_day d ≡ to_z w64 (of_z w64 c.args.number)) c.unwrap-date.ensures c.from_unix_epoch_day.ensures.value in
    let date = date_with c.unwrap-date.result c.args.number c.requires (found ∙ to_z-of_z c.ranges.number) in
    let below : date.0 ≤ 9999 = date.2 in
    rw (back_at w16 c.unwrap-date.result.year date.0 date.1 (omega arith)) (tt, omega arith)

pub returns-clause-number : goal.returns-clause-number
returns-clause-number c =
    let found = IfOk-at_ok (λ (d : Date). epoch_day d ≡ to_z w64 (of_z w64 c.args.number)) c.unwrap-date.ensures c.from_unix_epoch_day.ensures.value in
    let date = date_with c.unwrap-date.result c.args.number c.requires (found ∙ to_z-of_z c.ranges.number) in
    let below : date.0 ≤ 9999 = date.2 in
    rw (back_at w16 c.unwrap-date.result.year date.0 date.1 (omega arith)) date.3
