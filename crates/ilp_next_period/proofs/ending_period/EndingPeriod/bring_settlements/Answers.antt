use Rattle.std.proofs.Common.{◌≡◌, Some, Err, w64, to_z, of_z, rules, sym, subst}
use Rattle.std.specs.Prelude.{FitsSigned}
use Rattle.std.proofs.lemmas.Int.{to_z-of_z}
use Rattle.ilp_next_period.specs.NextPeriod.{HasLeft}
use Rattle.ilp_next_period.proofs.NextSteps.{fewer_behind, settlement_next, settlements_begin, settlements_done, settlements_left}
use Rattle.ilp_next_period.proofs.ending_period.EndingPeriod.bring_settlements.Goals as goal

-- at first all open settlements are left
pub loop-number-init : goal.loop-number-init
loop-number-init g c =
    let fits : FitsSigned w64 c.args.now = search rules in
    rw (to_z-of_z w64 c.args.now fits) (subst (HasLeft c.args.self.now c.args.config.now c.args.now c.args.next.now) (settlements_begin c.args.self.now c.args.config.now c.args.now) c.requires.left)

-- then that of the next number comes next
pub bring_settlement-requires : goal.bring_settlement-requires
bring_settlement-requires g c =
    let book = c.args.self.now in
    let next = c.args.config.now in
    let now = to_z w64 (of_z w64 c.args.now) in
    let n = c.in-Some.number in
    record { left = (settlements_left book next now (Some n), subst (HasLeft book next now c.loop-number.next) (settlement_next book next now c.loop-number.tried n (sym c.in-Some.ensures)) c.loop-number.invariant) }

pub loop-number-preserved : goal.loop-number-preserved
loop-number-preserved g c =
    let book = c.args.self.now in
    let next = c.args.config.now in
    let now = to_z w64 (of_z w64 c.args.now) in
    let n = c.in-Some.number in
    c.in_ok-bring_settlement.ensures.ok (settlements_left book next now (Some n))
    (subst (HasLeft book next now c.loop-number.next) (settlement_next book next now c.loop-number.tried n (sym c.in-Some.ensures)) c.loop-number.invariant)

-- each stands behind the one before
pub loop-number-smaller : goal.loop-number-smaller
loop-number-smaller g c = fewer_behind c.args.self.now.entries c.loop-number.tried c.in-Some.number (sym c.in-Some.ensures)

pub returns-clause-ok : goal.returns-clause-ok
returns-clause-ok g c =
    let fits : FitsSigned w64 c.args.now = search rules in
    let now = to_z w64 (of_z w64 c.args.now) in
    rw (sym (to_z-of_z w64 c.args.now fits))
    (subst (HasLeft c.args.self.now c.args.config.now now c.loop-number.next) (settlements_done c.args.self.now c.args.config.now now c.loop-number.tried (sym c.in_default.ensures)) c.loop-number.invariant)

pub returns-in_err-bring_settlement-clause-err : goal.returns-in_err-bring_settlement-clause-err
returns-in_err-bring_settlement-clause-err g c =
    let fits : FitsSigned w64 c.args.now = search rules in
    let passed : c.from_residual.result ≡ Err c.in_err-bring_settlement.field-0.0 = search rules in
    rw (passed, sym (to_z-of_z w64 c.args.now fits)) c.in_err-bring_settlement.ensures.err
