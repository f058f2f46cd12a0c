use Rattle.std.proofs.Common.{◌≤◌, ◌^◌, sym, arith}
use Rattle.std.proofs.Math.Nat.{div-eq_of_lt}
use Rattle.ilp_settlement.proofs.CreditLemmas.{ten_positive, powers_grow}
use Rattle.ilp_settlement.proofs.credit.lowered.Goals as goal

-- the power of ten is above all that 128 bits hold
pub returns-then-places-gt-MOST_LOWERED : goal.returns-then-places-gt-MOST_LOWERED
returns-then-places-gt-MOST_LOWERED c =
    let above : 10 ^ 39 ≤ 10 ^ c.args.places = powers_grow 39 c.args.places (omega arith) in
    sym (div-eq_of_lt (omega (arith, above)))

pub pow-requires : goal.pow-requires
pow-requires c =
    let within : 10 ^ c.from.result ≤ 10 ^ 38 = powers_grow c.from.result 38 (omega arith) in
    omega (arith, within)

pub nonzero_div-result : goal.nonzero_div-result
nonzero_div-result c = omega (arith, ten_positive c.from.result, c.pow.ensures)
