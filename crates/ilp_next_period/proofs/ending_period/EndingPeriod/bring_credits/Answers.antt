use Rattle.std.proofs.Common.{◌≡◌, ◌+◌, ◌≤◌, Some, Err, w64, to_z, of_z, ℕ, List, length, slice_get, arith, rules, sym, ap, subst, ◌∙◌}
use Rattle.std.specs.Prelude.{FitsSigned, slice_index_or}
use Rattle.std.proofs.lemmas.Int.{to_z-of_z}
use Rattle.std.proofs.lemmas.Option.{slice_get-get_or}
use Rattle.ilp_rules.specs.CreditTables.{credit_numbers}
use Rattle.ilp_next_period.specs.NextPeriod.{HasLeft}
use Rattle.ilp_next_period.proofs.NextSteps.{credits_begin, credit_next, credits_done, credits_left}
use Rattle.ilp_next_period.proofs.ending_period.EndingPeriod.bring_credits.Goals as goal

-- at first all credits are left
pub loop-number-init : goal.loop-number-init
loop-number-init g c =
    let fits : FitsSigned w64 c.args.now = search rules in
    rw (to_z-of_z w64 c.args.now fits) (subst (HasLeft c.args.self.now c.args.config.now c.args.now c.args.next.now) (credits_begin c.args.self.now c.args.config.now c.args.now) c.requires.left)

-- then the next one comes next
pub bring_credit-requires : goal.bring_credit-requires
bring_credit-requires g c =
    let book = c.args.self.now in
    let next = c.args.config.now in
    let now = to_z w64 (of_z w64 c.args.now) in
    let i = c.loop-number.number-index in
    let items = c.credit_numbers-number-items.result.now in
    let at : slice_get (credit_numbers book.entries) i ≡ Some (slice_index_or items i 0)
    = ap (λ (l : List ℕ). slice_get l i) (sym c.credit_numbers-number-items.ensures) ∙ slice_get-get_or items i 0 (omega (arith, c.loop-number-test.true)) in
    record { left = (credits_left book next now (i + 1), subst (HasLeft book next now c.loop-number.next) (credit_next book next now i (slice_index_or items i 0) at) c.loop-number.invariant) }

pub loop-number-preserved : goal.loop-number-preserved
loop-number-preserved g c =
    let book = c.args.self.now in
    let next = c.args.config.now in
    let now = to_z w64 (of_z w64 c.args.now) in
    let i = c.loop-number.number-index in
    let items = c.credit_numbers-number-items.result.now in
    let at : slice_get (credit_numbers book.entries) i ≡ Some (slice_index_or items i 0)
    = ap (λ (l : List ℕ). slice_get l i) (sym c.credit_numbers-number-items.ensures) ∙ slice_get-get_or items i 0 (omega (arith, c.loop-number-test.true)) in
    c.in_ok-bring_credit.ensures.ok (credits_left book next now (i + 1)) (subst (HasLeft book next now c.loop-number.next) (credit_next book next now i (slice_index_or items i 0) at) c.loop-number.invariant)

pub returns-clause-ok : goal.returns-clause-ok
returns-clause-ok g c =
    let fits : FitsSigned w64 c.args.now = search rules in
    let now = to_z w64 (of_z w64 c.args.now) in
    let all : length (credit_numbers c.args.self.now.entries) ≤ c.loop-number.number-index = omega (arith, c.loop-number-test.false, ap length c.credit_numbers-number-items.ensures) in
    rw (sym (to_z-of_z w64 c.args.now fits))
    (subst (HasLeft c.args.self.now c.args.config.now now c.loop-number.next) (credits_done c.args.self.now c.args.config.now now c.loop-number.number-index all) c.loop-number.invariant)

pub returns-in_err-bring_credit-clause-err : goal.returns-in_err-bring_credit-clause-err
returns-in_err-bring_credit-clause-err g c =
    let fits : FitsSigned w64 c.args.now = search rules in
    let passed : c.from_residual.result ≡ Err c.in_err-bring_credit.field-0.0 = search rules in
    rw (passed, sym (to_z-of_z w64 c.args.now fits)) c.in_err-bring_credit.ensures.err
