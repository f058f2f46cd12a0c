use Rattle.std.proofs.Common.{◌≤◌, ◌*◌, ◌^◌, arith}
use Rattle.std.proofs.Math.Nat.{mul-le-mul_left}
use Rattle.ilp_settlement.proofs.CreditLemmas.{powers_grow}
use Rattle.ilp_settlement.proofs.credit.raised.Goals as goal

-- the power of ten alone is above all that 64 bits hold
pub returns-then-places-gt-MOST_RAISED : goal.returns-then-places-gt-MOST_RAISED
returns-then-places-gt-MOST_RAISED c =
    let above : 10 ^ 20 ≤ 10 ^ c.args.places = powers_grow 20 c.args.places (omega arith) in
    let more : c.args.amount * 10 ^ 20 ≤ c.args.amount * 10 ^ c.args.places = mul-le-mul_left c.args.amount above in
    λ fits. absurd (omega (arith, fits, more))
