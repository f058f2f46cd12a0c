-- The test for expiries passes exactly the texts that name a moment.
use Rattle.std.proofs.Common.{◌≡◌, ℕ, ◌≤◌, true, ◌&&◌, List, length, get_or, arith}
use Rattle.std.specs.Prelude.{nat_le, slice_index}
use Rattle.std.specs.Int.{IsInRange}
use Rattle.std.specs.List.{list_all}
use Rattle.std.proofs.lemmas.Bool.{eq-eqb, eqb-true, and_parts, and_from}
use Rattle.std.proofs.lemmas.Bool.Decides.{nat_tests}
use Rattle.std.proofs.lemmas.List.Sums.{AllPass-from_list_all, list_all-from_AllPass}
use Rattle.std.proofs.lemmas.Grind.{get_or_default_zero}
use Rattle.ilp_terms.specs.Calendar.{IsDate, days_in_month}
use Rattle.ilp_terms.specs.Expiry.{IsExpiry, AreDigits, year, month, day, hour, minute, second}
use Rattle.ilp_packet.specs.ExpiryTest.{is_digit, is_date, is_expiry}

-- a test of two bounds
in_range : (least most n : ℕ) → (nat_le least n && nat_le n most) ≡ true → IsInRange least most n
in_range least most n h = (grind (arith, nat_tests), grind (arith, nat_tests))

range_in : (least most n : ℕ) → IsInRange least most n → (nat_le least n && nat_le n most) ≡ true
range_in least most n h = let low = h.0 in let high = h.1 in grind (arith, nat_tests)

at_most : (n most : ℕ) → nat_le n most ≡ true → n ≤ most
at_most n most h = grind (arith, nat_tests)

most_at : (n most : ℕ) → n ≤ most → nat_le n most ≡ true
most_at n most h = grind (arith, nat_tests)

-- seventeen octets that pass the test are digits
digits_from : (text : List ℕ) → length text ≡ 17 → list_all is_digit text ≡ true → AreDigits text
digits_from text len passed place in_text =
    in_range 48 57 (slice_index text place) (AllPass-from_list_all is_digit text passed place 0 (omega arith))

digits_pass : (text : List ℕ) → length text ≡ 17 → AreDigits text → list_all is_digit text ≡ true
digits_pass text len digits =
    list_all-from_AllPass is_digit text (λ k d in_text.
    range_in 48 57 (get_or text k d) (rw (get_or_default_zero text k d in_text) (digits k (omega arith))))

date_from : (y m d : ℕ) → is_date y m d ≡ true → IsDate y m d
date_from y m d h =
    let year_and = and_parts _ _ h in
    let month_and = and_parts _ _ year_and.1 in
    record {
      year_in = at_most y 9999 year_and.0;
      month_in = in_range 1 12 m month_and.0;
      day_in = in_range 1 (days_in_month y m) d month_and.1;
    }

date_passes : (y m d : ℕ) → IsDate y m d → is_date y m d ≡ true
date_passes y m d h =
    and_from _ _ (most_at y 9999 h.year_in)
    (and_from _ _ (range_in 1 12 m h.month_in) (range_in 1 (days_in_month y m) d h.day_in))

pub expiry_from_test : (text : List ℕ) → is_expiry text ≡ true → IsExpiry text
unfolding is_expiry
expiry_from_test text h =
    let halves = and_parts _ _ h in
    let digits = and_parts _ _ halves.0 in
    let date_and = and_parts _ _ halves.1 in
    let hour_and = and_parts _ _ date_and.1 in
    let minute_and = and_parts _ _ hour_and.1 in
    let len : length text ≡ 17 = eqb-true _ _ digits.0 in
    record {
      seventeen = len;
      digits = digits_from text len digits.1;
      date_in = date_from (year text) (month text) (day text) date_and.0;
      hour_in = at_most (hour text) 23 hour_and.0;
      minute_in = at_most (minute text) 59 minute_and.0;
      second_in = at_most (second text) 59 minute_and.1;
    }

pub is_expiry-passes : (text : List ℕ) → IsExpiry text → is_expiry text ≡ true
unfolding is_expiry
is_expiry-passes text h =
    and_from _ _ (and_from _ _ (eq-eqb _ _ h.seventeen) (digits_pass text h.seventeen h.digits))
    (and_from _ _ (date_passes (year text) (month text) (day text) h.date_in)
    (and_from _ _ (most_at (hour text) 23 h.hour_in)
    (and_from _ _ (most_at (minute text) 59 h.minute_in) (most_at (second text) 59 h.second_in))))
