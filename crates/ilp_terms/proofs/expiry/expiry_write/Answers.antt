use Rattle.std.proofs.Common.{◌≡◌, ◌∙◌, sym, ap, refl, arith, nat_abs, to_z, of_z, to_z-of_z, rules}
use Rattle.std.specs.Int.{w64}
use Rattle.ilp_terms.proofs.ExpiryLemmas.{are_digits, date_at, same_expiry}
use Rattle.ilp_terms.proofs.expiry.expiry_write.Goals as goal

pub returns-clause-expiry : goal.returns-clause-expiry
returns-clause-expiry c =
    let date = c.date_with_number-date.result in
    let back : nat_abs (to_z w64 (of_z w64 c.rem_euclid-time.result)) ≡ nat_abs c.rem_euclid-time.result =
    ap nat_abs (to_z-of_z {w = w64} {z = c.rem_euclid-time.result} (record { sfits = c.rem_euclid-time.type_inv })) in
    let below = c.rem_euclid-time.ensures.upper_bound in
    record {
      seventeen = refl;
      digits = are_digits _ _ _ _ _ _ _ _ _ _ _ _ _ _ _ _ _ (c.pair.ensures.tens, c.pair.ensures.ones) (c.pair-2.ensures.tens, c.pair-2.ensures.ones) (c.pair-3.ensures.tens, c.pair-3.ensures.ones) (c.pair-4.ensures.tens, c.pair-4.ensures.ones) (c.pair-5.ensures.tens, c.pair-5.ensures.ones) (c.pair-6.ensures.tens, c.pair-6.ensures.ones) (c.pair-7.ensures.tens, c.pair-7.ensures.ones) (omega arith, omega arith) (c.pair-8.ensures.tens, c.pair-8.ensures.ones);
      date_in = date_at date.year date.month date.day _ _ _ (omega (arith, c.pair.ensures.value, c.pair-2.ensures.value)) c.pair-3.ensures.value c.pair-4.ensures.value c.date_with_number-date.ensures.date;
      hour_in = omega (arith, c.pair-5.ensures.value, back, below);
      minute_in = omega (arith, c.pair-6.ensures.value);
      second_in = omega (arith, c.pair-7.ensures.value);
    }

pub returns-clause-value : goal.returns-clause-value
returns-clause-value c = search rules

pub returns-clause-only : goal.returns-clause-only
returns-clause-only c =
    λ text h e. same_expiry text _ h (returns-clause-expiry c) (e ∙ sym (returns-clause-value c))
