-- A fraction of two numbers with powers of ten, and the same with the common power left out.
use Rattle.std.proofs.Common.{◌≡◌, ℕ, zero, suc, ◌+◌, ◌*◌, ◌/◌, ◌^◌, ◌<◌, ◌≤◌, sym, ◌∙◌, ap, arith, lit<}
use Rattle.std.proofs.Math.Nat.{mul_comm, mul_assoc, pow-suc, mul-div-mul_right}
use Rattle.std.proofs.lemmas.Nat.{pow-add}
use Rattle.std.specs.Int.{abs_diff}
use Rattle.ilp_assets.specs.Quote.{converted}

-- no power of ten is 0
pub ten_pow-pos : (k : ℕ) → 0 < 10 ^ k
ten_pow-pos zero = lit< tt
ten_pow-pos (suc k) = omega (arith, pow-suc 10 k, ten_pow-pos k)

-- a power of ten as two factors
parted : (n k d : ℕ) → n * 10 ^ (k + d) ≡ n * 10 ^ d * 10 ^ k
parted n k d = ap (λ m. n * m) (pow-add 10 k d ∙ mul_comm (10 ^ k) (10 ^ d)) ∙ sym (mul_assoc n (10 ^ d) (10 ^ k))

-- toward more decimals the numerator keeps the power of the difference
pub converted_up : (p q s t net : ℕ) → s ≤ t → converted p q s t net ≡ net * p * 10 ^ abs_diff s t / q
converted_up p q s t net below =
    let gap : s + abs_diff s t ≡ t = omega arith in
    let numerator : net * p * 10 ^ t ≡ net * p * 10 ^ abs_diff s t * 10 ^ s = ap (λ k. net * p * 10 ^ k) (sym gap) ∙ parted (net * p) s (abs_diff s t) in
    ap (λ n. n / (q * 10 ^ s)) numerator ∙ mul-div-mul_right (net * p * 10 ^ abs_diff s t) q (ten_pow-pos s)

-- toward fewer decimals the denominator keeps it
pub converted_down : (p q s t net : ℕ) → t ≤ s → converted p q s t net ≡ net * p / (q * 10 ^ abs_diff s t)
converted_down p q s t net below =
    let gap : t + abs_diff s t ≡ s = omega arith in
    let denominator : q * 10 ^ s ≡ q * 10 ^ abs_diff s t * 10 ^ t = ap (λ k. q * 10 ^ k) (sym gap) ∙ parted q t (abs_diff s t) in
    ap (λ d. net * p * 10 ^ t / d) denominator ∙ mul-div-mul_right (net * p) (q * 10 ^ abs_diff s t) (ten_pow-pos t)
