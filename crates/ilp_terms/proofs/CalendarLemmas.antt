-- The calendar of this crate gives jiff_core's day numbers, from the year 0 on.
use Rattle.std.proofs.Common.{◌≡◌, ℕ, zero, suc, ◌+◌, ◌-◌, ◌≤◌, ◌<◌, to_z, of_z, ◌^◌, refl, sym, ap, subst, ◌∙◌, arith, ℤ, pos, negsuc, neg_ℤ, ◌≤ℤ◌}
use Rattle.std.proofs.lemmas.Int.{by_lt_z, to_z_pos}
use Rattle.jiff_core.specs.Calendar.{IsCivilDate, days_from_civil, day_count, days_of_years, days_of_months as jiff_days_of_months, days_in_month as jiff_days_in_month}
use Rattle.std.specs.Int.{IsInRange, Width, w16}
use mir.Val.{hbits}
use Rattle.jiff_core.specs.Date.{epoch_day}
use Rattle.jiff_core.specs.declared.civil.date.Date.{Date}
use Rattle.jiff_core.proofs.SignedLemmas.{signed_arith}
use Rattle.jiff_core.proofs.MarchLemmas.{leap_day-shift, days_in_year-leap_day, days_of_years-suc, day_count-early}
use Rattle.jiff_core.proofs.CalendarLemmas.{days_from_civil-day_count, day_count-lt_year}
use Rattle.jiff_core.proofs.DateLemmas.{civil, epoch_day_injective, epoch_day_range}
use Rattle.ilp_terms.specs.Calendar.{IsDate, IsDayNumber, days_in_month, days_before_year, days_of_months, days_before, day_number}

-- jiff_core counts years from -10000, a multiple of 400
pub days_of_years-shift : (y : ℕ) → days_of_years (y + 10000) ≡ days_of_years 10000 + days_before_year y
unfolding days_before_year
days_of_years-shift zero = omega arith
days_of_years-shift (suc y) =
    let next : suc y + 10000 ≡ suc (y + 10000) = omega arith in
    rw next (omega (arith, days_of_years-shift y, days_of_years-suc (y + 10000), leap_day-shift (pos y) (y + 10000) refl, days_in_year-leap_day (pos y)))

pub same_months : (y n : ℕ) → jiff_days_of_months (pos y) n ≡ days_of_months y n
unfolding jiff_days_of_months days_of_months
same_months y zero = refl
same_months y (suc n) = rw (same_months y n)

pub day_count-days_before : (y m d : ℕ) → 1 ≤ d → day_count (pos y) m d ≡ days_of_years 10000 + days_before y m d
unfolding day_count days_before
day_count-days_before y m d first =
    omega (arith, days_of_years-shift y, same_months y (m - 1))

-- the two day numbers are one
pub same_day_number : (y m d : ℕ) → 1 ≤ d → days_from_civil (pos y) m d ≡ day_number y m d
unfolding days_from_civil day_number
same_day_number y m d first =
    omega (arith, signed_arith, day_count-days_before y m d first, day_count-days_before 1970 1 1 (omega arith))

-- a date of jiff_core's from the first day of the year 0 on has no negative year
pub year_from_zero : (d : Date) → neg_ℤ (pos 719_528) ≤ℤ epoch_day d → pos 0 ≤ℤ d.year
year_from_zero d h = by_lt_z d.year (pos 0)
    (λ lt. absurd (omega (arith, signed_arith, days_from_civil-day_count, day_count-lt_year d.year d.month d.day (pos 0) 1 1 (civil d) (omega arith) lt, day_count-early (pos 0) 9999 1 1 refl (omega arith) (omega arith) (omega arith))))
    (λ le. le)

-- a date of the calendar is one of jiff_core's
pub civil_date : (y m d : ℕ) → IsDate y m d → IsCivilDate (pos y) m d
civil_date y m d h = ((omega (arith, signed_arith), omega (arith, signed_arith, h.year_in)), h.month_in, h.day_in)

pub days_before_epoch : days_before 1970 1 1 ≡ 719_528
unfolding days_before days_before_year days_of_months
days_before_epoch = refl

pub day_number_least : (y m d : ℕ) → neg_ℤ (pos 719_528) ≤ℤ day_number y m d
unfolding day_number
day_number_least y m d = rw days_before_epoch (omega (arith, signed_arith))

-- what a date of jiff_core's from the year 0 on is here
pub date_parts : (date : Date) (y m d : ℕ) → date.year ≡ pos y → date.month ≡ m → date.day ≡ d → IsDate y m d × (epoch_day date ≡ day_number y m d) × IsDayNumber (epoch_day date)
date_parts date y m d year month day =
    let in_month : IsInRange 1 (jiff_days_in_month (pos y) m) d =
    subst (λ c. IsInRange 1 (jiff_days_in_month (pos y) m) c) day
    (subst (λ b. IsInRange 1 (jiff_days_in_month (pos y) b) date.day) month
    (subst (λ a. IsInRange 1 (jiff_days_in_month a date.month) date.day) year date.day_in)) in
    let first : 1 ≤ d = in_month.0 in
    let number : epoch_day date ≡ day_number y m d = rw (year, month, day) (same_day_number y m d first) in (
      record { year_in = omega (arith, signed_arith, date.year_in, year); month_in = rw (← month) date.month_in; day_in = in_month },
      number,
      (rw number (day_number_least y m d), (epoch_day_range date).1),
    )

pub natural_from : (z : ℤ) → pos 0 ≤ℤ z → (n : ℕ) × (z ≡ pos n)
natural_from (pos n) h = (n, refl)
natural_from (negsuc n) h = absurd (omega (arith, signed_arith))

-- a date of jiff_core's with a day number of these years
pub date_with : (date : Date) (n : ℤ) → IsDayNumber n → epoch_day date ≡ n → (y : ℕ) × (date.year ≡ pos y) × (y ≤ 9999) × (day_number y date.month date.day ≡ n) × IsDate y date.month date.day
date_with date n h e =
    let low = natural_from date.year (year_from_zero date (rw e h.0)) in
    let parts = date_parts date low.0 date.month date.day low.1 refl refl in
    (low.0, low.1, parts.0.year_in, sym parts.1 ∙ e, parts.0)

-- a small natural number comes back from its bits
pub back_at : (w : Width) (z : ℤ) (n : ℕ) → z ≡ pos n → n < 2 ^ hbits w → to_z w (of_z w z) ≡ pos n
back_at w z n e h = rw e (to_z_pos w n h)

-- the day number that jiff_core gives to a date, and the length of a month, at a year that was cast
pub counted_from : (number : ℤ) (y m d : ℕ) → y ≤ 9999 → 1 ≤ d → number ≡ days_from_civil (to_z w16 y) m d → number ≡ day_number y m d
counted_from number y m d year_in first e =
    e ∙ ap (λ (a : ℤ). days_from_civil a m d) (to_z_pos w16 y (omega arith)) ∙ same_day_number y m d first

pub same_month_length : (y m : ℕ) → y ≤ 9999 → jiff_days_in_month (to_z w16 y) m ≡ days_in_month y m
same_month_length y m year_in = ap (λ (a : ℤ). jiff_days_in_month a m) (to_z_pos w16 y (omega arith))

-- dates with one day number are one date
pub day_number_injective : (y m d y₂ m₂ d₂ : ℕ) → IsDate y m d → IsDate y₂ m₂ d₂ → day_number y m d ≡ day_number y₂ m₂ d₂ → (y ≡ y₂) × (m ≡ m₂) × (d ≡ d₂)
day_number_injective y m d y₂ m₂ d₂ h h₂ e =
    let in_a = civil_date y m d h in
    let in_b = civil_date y₂ m₂ d₂ h₂ in
    let a : Date = record { year = pos y; month = m; day = d; year_in = in_a.0; month_in = in_a.1; day_in = in_a.2 } in
    let b : Date = record { year = pos y₂; month = m₂; day = d₂; year_in = in_b.0; month_in = in_b.1; day_in = in_b.2 } in
    let same = epoch_day_injective a b (same_day_number y m d h.day_in.0 ∙ e ∙ sym (same_day_number y₂ m₂ d₂ h₂.day_in.0)) in
    (omega (arith, signed_arith, same.0), same.1, same.2)
