-- The moment that an expiry names lies in the years 0 to 9999.
use Rattle.std.proofs.Common.{◌≡◌, ℕ, zero, suc, ◌+◌, ◌-◌, ◌≤◌, ◌<◌, Bool, true, false, cond, refl, ap, subst, ◌∙◌, arith, List, zero-add}
use Rattle.std.proofs.lemmas.Int.{ints}
use Rattle.ilp_terms.specs.Calendar.{IsDate, IsDayNumber, is_leap_year, days_in_year, days_before_year, days_of_months, days_before, day_number}
use Rattle.ilp_terms.specs.Expiry.{IsExpiry, IsMoment, year, month, day, moment_of}
use Rattle.ilp_terms.proofs.CalendarLemmas.{day_number_least, days_before_epoch}
use Rattle.ilp_terms.proofs.ExpiryLemmas.{moment_in}

days_before_year_10000 : days_before_year 10000 ≡ 3_652_425
unfolding days_before_year
days_before_year_10000 = refl

-- a later year begins later
days_before_year-later : (y k : ℕ) → days_before_year y ≤ days_before_year (k + y)
unfolding days_before_year
days_before_year-later y zero = rw zero-add (omega arith)
days_before_year-later y (suc k) =
    let next : suc k + y ≡ suc (k + y) = omega arith in
    rw next (omega (arith, days_before_year-later y k))

-- later months end later
days_of_months-later : (y m k : ℕ) → days_of_months y m ≤ days_of_months y (k + m)
unfolding days_of_months
days_of_months-later y m zero = rw zero-add (omega arith)
days_of_months-later y m (suc k) =
    let next : suc k + m ≡ suc (k + m) = omega arith in
    rw next (omega (arith, days_of_months-later y m k))

-- twelve months are a year
twelve_months : (y : ℕ) → days_of_months y 12 ≡ days_in_year y
unfolding days_of_months
twelve_months y = by_leap (is_leap_year y)
  where
    by_leap : (leap : Bool) → 0 + 31 + cond leap 29 28 + 31 + 30 + 31 + 30 + 31 + 31 + 30 + 31 + 30 + 31 ≡ cond leap 366 365
    by_leap true = refl
    by_leap false = refl

-- a date lies in its year
days_before-in_year : (y m d : ℕ) → IsDate y m d → days_before y m d < days_before_year (suc y)
unfolding days_before days_before_year days_of_months
days_before-in_year y zero d h = absurd (omega (arith, h.month_in.0))
days_before-in_year y (suc m) d h =
    let before : suc m - 1 ≡ m = omega arith in
    let last : (12 - suc m) + suc m ≡ 12 = omega (arith, h.month_in.1) in
    let within : days_of_months y (suc m) ≤ days_in_year y = subst (λ (n : ℕ). days_of_months y (suc m) ≤ n) (ap (days_of_months y) last ∙ twelve_months y) (days_of_months-later y (suc m) (12 - suc m)) in
    rw before (omega (arith, h.day_in.0, h.day_in.1, within))

-- the day numbers of these years
day_number_in : (y m d : ℕ) → IsDate y m d → IsDayNumber (day_number y m d)
unfolding day_number
day_number_in y m d h =
    let later : (9999 - y) + suc y ≡ 10000 = omega (arith, h.year_in) in
    let end : days_before_year (suc y) ≤ 3_652_425 = subst (λ (n : ℕ). days_before_year (suc y) ≤ n) (ap days_before_year later ∙ days_before_year_10000) (days_before_year-later (suc y) (9999 - y)) in
    let below = days_before-in_year y m d h in
    (day_number_least y m d, rw days_before_epoch (omega (arith, ints, end, below)))

pub moment_of-in : (text : List ℕ) → IsExpiry text → IsMoment (moment_of text)
moment_of-in text h = moment_in text h (day_number_in (year text) (month text) (day text) h.date_in)
