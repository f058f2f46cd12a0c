-- From one scale to another, by the difference of the two.
use Rattle.std.proofs.Common.{◌≡◌, ℕ, ◌+◌, ◌-◌, ◌*◌, ◌/◌, ◌^◌, ◌≤◌, ◌<◌, sym, ap, ◌∙◌, arith, Option, Some, None, Result}
use Rattle.std.specs.Prelude.{SomeIff, OkIff}
use Rattle.std.specs.Option.{ok_or}
use Rattle.std.proofs.Math.Nat.{one-le-pow, pow-le-pow_right, mul-div_cancel, div-div-eq-div-mul, mul_assoc, mul-le-mul_left}
use Rattle.std.proofs.lemmas.Nat.{pow-add}

pub ten_positive : (n : ℕ) → 0 < 10 ^ n
ten_positive n = omega (arith, one-le-pow n 10 (omega arith))

-- to a finer scale, the amount is multiplied
pub to_finer : (amount from to : ℕ) → from ≤ to → amount * 10 ^ to / 10 ^ from ≡ amount * 10 ^ (to - from)
to_finer amount from to h =
    let split : to ≡ (to - from) + from = omega arith in
    let power : 10 ^ to ≡ 10 ^ (to - from) * 10 ^ from = ap (λ (n : ℕ). 10 ^ n) split ∙ pow-add 10 (to - from) from in
    ap (λ (n : ℕ). amount * n / 10 ^ from) power
    ∙ ap (λ (n : ℕ). n / 10 ^ from) (sym (mul_assoc amount (10 ^ (to - from)) (10 ^ from)))
    ∙ mul-div_cancel (amount * 10 ^ (to - from)) (ten_positive from)

-- to a coarser scale, it is divided
pub to_coarser : (amount from to : ℕ) → to ≤ from → amount * 10 ^ to / 10 ^ from ≡ amount / 10 ^ (from - to)
to_coarser amount from to h =
    let split : from ≡ to + (from - to) = omega arith in
    let power : 10 ^ from ≡ 10 ^ to * 10 ^ (from - to) = ap (λ (n : ℕ). 10 ^ n) split ∙ pow-add 10 to (from - to) in
    ap (λ (n : ℕ). amount * 10 ^ to / n) power
    ∙ sym (div-div-eq-div-mul (amount * 10 ^ to) (10 ^ to) (10 ^ (from - to)))
    ∙ ap (λ (n : ℕ). n / 10 ^ (from - to)) (mul-div_cancel amount (ten_positive to))

-- a greater power is no less
pub powers_grow : (i j : ℕ) → i ≤ j → 10 ^ i ≤ 10 ^ j
powers_grow i j h = pow-le-pow_right {n = 10} (omega arith) h

-- more places make no amount smaller
pub more_places : (amount i j : ℕ) → i ≤ j → amount * 10 ^ i ≤ amount * 10 ^ j
more_places amount i j h = mul-le-mul_left amount (powers_grow i j h)

-- a number that was raised if it fits, as a result
pub ok_from_some : {E : Type 0} (o : Option ℕ) (r : Result ℕ E) (e : E) (v w : ℕ) → r ≡ ok_or o e → w ≡ v → SomeIff o (v < 2 ^ 64) v → OkIff r (w < 2 ^ 64) w
ok_from_some (Some x) r e v w is same h = rw (is, same) h
ok_from_some None r e v w is same h = rw (is, same) h
