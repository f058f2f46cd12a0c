use Rattle.std.proofs.Common.{◌≡◌, ◌+◌, Err, w64, to_z, of_z, arith, rules, sym, subst}
use Rattle.std.specs.Prelude.{FitsSigned}
use Rattle.std.proofs.lemmas.Int.{to_z-of_z}
use Rattle.ilp_next_period.specs.NextPeriod.{HasLeft}
use Rattle.ilp_next_period.proofs.NextSteps.{opening_next, openings_done, openings_left}
use Rattle.ilp_next_period.proofs.ending_period.EndingPeriod.open_balances.Goals as goal

-- at first all balances are left
pub loop-place-init : goal.loop-place-init
loop-place-init g c =
    let fits : FitsSigned w64 c.args.now = search rules in
    rw (to_z-of_z w64 c.args.now fits) c.requires.left

-- then that of the next peer comes next
pub open_balance-requires-clause-left : goal.open_balance-requires-clause-left
open_balance-requires-clause-left g c =
    let book = c.args.self.now in
    let next = c.args.config.now in
    let now = to_z w64 (of_z w64 c.args.now) in
    let q = c.loop-place.place in
    (openings_left book next now (q + 1), subst (HasLeft book next now c.loop-place.next) (opening_next book next now q (omega (arith, c.peers-place-end.ensures.count, c.loop-place-test.true))) c.loop-place.invariant)

pub loop-place-preserved : goal.loop-place-preserved
loop-place-preserved g c =
    let book = c.args.self.now in
    let next = c.args.config.now in
    let now = to_z w64 (of_z w64 c.args.now) in
    let q = c.loop-place.place in
    c.in_ok-open_balance.ensures.ok (openings_left book next now (q + 1))
    (subst (HasLeft book next now c.loop-place.next) (opening_next book next now q (omega (arith, c.peers-place-end.ensures.count, c.loop-place-test.true))) c.loop-place.invariant)

pub returns-clause-ok : goal.returns-clause-ok
returns-clause-ok g c =
    let fits : FitsSigned w64 c.args.now = search rules in
    let now = to_z w64 (of_z w64 c.args.now) in
    rw (sym (to_z-of_z w64 c.args.now fits))
    (subst (HasLeft c.args.self.now c.args.config.now now c.loop-place.next)
    (openings_done c.args.self.now c.args.config.now now c.loop-place.place (omega (arith, c.peers-place-end.ensures.count, c.loop-place-test.false)))
    c.loop-place.invariant)

pub returns-in_err-open_balance-clause-err : goal.returns-in_err-open_balance-clause-err
returns-in_err-open_balance-clause-err g c =
    let fits : FitsSigned w64 c.args.now = search rules in
    let passed : c.from_residual.result ≡ Err c.in_err-open_balance.field-0.0 = search rules in
    rw (passed, sym (to_z-of_z w64 c.args.now fits)) c.in_err-open_balance.ensures.err
