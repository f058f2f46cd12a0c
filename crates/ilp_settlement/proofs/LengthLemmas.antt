-- How long the JSON of an amount is.
use Rattle.std.proofs.Common.{ℕ, ◌<◌, ◌≤◌, ◌^◌, length, arith, length-append}
use Rattle.std.proofs.lemmas.Fmt.{length-decimal-le}
use Rattle.ilp_settlement.specs.Quantity.{quantity_text}
use Rattle.ilp_settlement.specs.declared.printed.TheConstants.{LONGEST_QUANTITY}

-- 22 octets of its own, at most 20 digits of the amount, and at most 3 of the scale
pub quantity_fits : (amount scale : ℕ) → amount < 2 ^ 64 → scale < 256 → length (quantity_text amount scale) ≤ LONGEST_QUANTITY
quantity_fits amount scale fits small =
    let digits = length-decimal-le 20 amount (omega arith) (omega arith) (omega arith) in
    let few = length-decimal-le 3 scale (omega arith) (omega arith) (omega arith) in
    simp length-append (omega (arith, digits, few))
