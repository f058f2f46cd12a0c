-- One expiry names a moment.
use Rattle.std.proofs.Common.{◌≡◌, ℕ, ◌+◌, ◌*◌, ◌≤◌, ◌<◌, List, [], ◌∷◌, sym, ◌∙◌, arith, ℤ, pos, ◌+ℤ◌, ◌*ℤ◌}
use Rattle.jiff_core.proofs.SignedLemmas.{signed_arith}
use Rattle.std.specs.Prelude.{slice_index}
use borrow.Author.Count.{below_none, below_more}
use Rattle.std.specs.Int.{IsInRange}
use Rattle.std.proofs.lemmas.Grind.{same_number_lists}
use Rattle.ilp_terms.specs.Calendar.{IsDate, IsDayNumber, day_number}
use Rattle.ilp_terms.specs.Expiry.{AreDigits, IsExpiry, IsMoment, digit, two_digits, year, month, day, hour, minute, second, millisecond, time_of_day, moment_of}
use Rattle.ilp_terms.proofs.CalendarLemmas.{day_number_injective}

-- a digit is below 10
pub digit_below : (text : List ℕ) (place : ℕ) → AreDigits text → place < 17 → digit text place ≤ 9
digit_below text place h in_text = omega (arith, h place in_text)

pub two_digits_below : (text : List ℕ) (place : ℕ) → AreDigits text → place + 1 < 17 → two_digits text place ≤ 99
two_digits_below text place h in_text = omega (arith, digit_below text place h (omega arith), digit_below text (place + 1) h (omega arith))

pub time_of_day_below : (text : List ℕ) → IsExpiry text → time_of_day text < 86_400_000
time_of_day_below text h =
    omega (arith, h.hour_in, h.minute_in, h.second_in, digit_below text 14 h.digits (omega arith), digit_below text 15 h.digits (omega arith), digit_below text 16 h.digits (omega arith))

-- a day and a time of that day, in milliseconds, are told apart
pub same_day_and_time : (a b : ℤ) (s t : ℕ) → s < 86_400_000 → t < 86_400_000 → a *ℤ pos 86_400_000 +ℤ pos s ≡ b *ℤ pos 86_400_000 +ℤ pos t → (a ≡ b) × (s ≡ t)
same_day_and_time a b s t h k e = (omega (arith, signed_arith, e), omega (arith, signed_arith, e))

pub millisecond_below : (text : List ℕ) → AreDigits text → millisecond text ≤ 999
millisecond_below text h = omega (arith, digit_below text 14 h (omega arith), digit_below text 15 h (omega arith), digit_below text 16 h (omega arith))

-- one time of day has one hour, minute, second and millisecond
pub same_clock : (h m s t h₂ m₂ s₂ t₂ : ℕ) → m ≤ 59 → s ≤ 59 → t ≤ 999 → m₂ ≤ 59 → s₂ ≤ 59 → t₂ ≤ 999 → ((h * 60 + m) * 60 + s) * 1000 + t ≡ ((h₂ * 60 + m₂) * 60 + s₂) * 1000 + t₂ → (h ≡ h₂) × (m ≡ m₂) × (s ≡ s₂) × (t ≡ t₂)
same_clock h m s t h₂ m₂ s₂ t₂ a b c d e f same =
    let seconds : (h * 60 + m) * 60 + s ≡ (h₂ * 60 + m₂) * 60 + s₂ = omega (arith, same) in
    let minutes : h * 60 + m ≡ h₂ * 60 + m₂ = omega (arith, seconds) in
    (omega (arith, minutes), omega (arith, minutes), omega (arith, seconds, minutes), omega (arith, same, seconds))

-- equal numbers of two digits have equal digits
pub same_pair : (a b : List ℕ) (place : ℕ) → AreDigits a → AreDigits b → place + 1 < 17 → two_digits a place ≡ two_digits b place → (slice_index a place ≡ slice_index b place) × (slice_index a (place + 1) ≡ slice_index b (place + 1))
same_pair a b place h k l e =
    let a0 = h place (omega arith) in
    let a1 = h (place + 1) l in
    let b0 = k place (omega arith) in
    let b1 = k (place + 1) l in
    (omega (arith, a0.0, a0.1, a1.0, a1.1, b0.0, b0.1, b1.0, b1.1, e), omega (arith, a0.0, a0.1, a1.0, a1.1, b0.0, b0.1, b1.0, b1.1, e))

-- what holds below a place, and of it and the next, holds below the place after them
below_pair : (P : ℕ → Type 0) (i : ℕ) → ((k : ℕ) → k < i → P k) → P i × P (i + 1) → (k : ℕ) → k < i + 2 → P k
below_pair P i below here k l = below_more P (i + 1) (below_more P i below here.0) here.1 k (omega arith)

-- what holds of each of the seventeen places: they come two by two, and the hundreds of the milliseconds alone
each_place : (P : ℕ → Type 0) → P 0 × P 1 → P 2 × P 3 → P 4 × P 5 → P 6 × P 7 → P 8 × P 9 → P 10 × P 11 → P 12 × P 13 → P 14 → P 15 × P 16
    → (k : ℕ) → k < 17 → P k
each_place P century year month day hour minute second hundreds ones =
    let date = below_pair P 6 (below_pair P 4 (below_pair P 2 (below_pair P 0 (below_none P) century) year) month) day in
    below_pair P 15 (below_more P 14 (below_pair P 12 (below_pair P 10 (below_pair P 8 date hour) minute) second) hundreds) ones

-- a date with the same parts
pub date_at : (y m d y₂ m₂ d₂ : ℕ) → y₂ ≡ y → m₂ ≡ m → d₂ ≡ d → IsDate y m d → IsDate y₂ m₂ d₂
date_at y m d y₂ m₂ d₂ year month day h = rw (year, month, day) h

-- two expiries that name one moment are one text
pub same_expiry : (a b : List ℕ) → IsExpiry a → IsExpiry b → moment_of a ≡ moment_of b → a ≡ b
same_expiry a b h k e =
    let apart = same_day_and_time (day_number (year a) (month a) (day a)) (day_number (year b) (month b) (day b)) (time_of_day a) (time_of_day b) (time_of_day_below a h) (time_of_day_below b k) e in
    let date = day_number_injective (year a) (month a) (day a) (year b) (month b) (day b) h.date_in k.date_in apart.0 in
    let at = λ (place : ℕ) (l : place + 1 < 17) (same : two_digits a place ≡ two_digits b place). same_pair a b place h.digits k.digits l same in
    let below_a = λ (place : ℕ) (l : place + 1 < 17). two_digits_below a place h.digits l in
    let below_b = λ (place : ℕ) (l : place + 1 < 17). two_digits_below b place k.digits l in
    let century = at 0 (omega arith) (omega (arith, date.0, below_a 2 (omega arith), below_b 2 (omega arith))) in
    let year_in = at 2 (omega arith) (omega (arith, date.0, below_a 2 (omega arith), below_b 2 (omega arith))) in
    let month_in = at 4 (omega arith) date.1 in
    let day_in = at 6 (omega arith) date.2 in
    let clock = same_clock (hour a) (minute a) (second a) (millisecond a) (hour b) (minute b) (second b) (millisecond b) h.minute_in h.second_in (millisecond_below a h.digits) k.minute_in k.second_in (millisecond_below b k.digits) apart.1 in
    let hours = at 8 (omega arith) clock.0 in
    let minutes = at 10 (omega arith) clock.1 in
    let seconds = at 12 (omega arith) clock.2 in
    let tenths = at 15 (omega arith) (omega (arith, clock.3, below_a 15 (omega arith), below_b 15 (omega arith))) in
    let a14 = h.digits 14 (omega arith) in
    let b14 = k.digits 14 (omega arith) in
    let hundreds : slice_index a 14 ≡ slice_index b 14 = omega (arith, clock.3, below_a 15 (omega arith), below_b 15 (omega arith), a14.0, a14.1, b14.0, b14.1) in
    same_number_lists a b (h.seventeen ∙ sym k.seventeen)
    (λ place l. each_place (λ k. slice_index a k ≡ slice_index b k) century year_in month_in day_in hours minutes seconds hundreds tenths place (rw h.seventeen at l))

abbrev pub IsDigit : ℕ → Type 0
IsDigit c = IsInRange 48 57 c

-- the digits of two places
abbrev pub ArePair : ℕ → ℕ → Type 0
ArePair a b = IsDigit a × IsDigit b

-- seventeen digits in a row
pub are_digits : (a0 a1 a2 a3 a4 a5 a6 a7 a8 a9 a10 a11 a12 a13 a14 a15 a16 : ℕ)
    → ArePair a0 a1 → ArePair a2 a3 → ArePair a4 a5 → ArePair a6 a7 → ArePair a8 a9 → ArePair a10 a11 → ArePair a12 a13 → IsDigit a14 → ArePair a15 a16
    → AreDigits (a0 ∷ a1 ∷ a2 ∷ a3 ∷ a4 ∷ a5 ∷ a6 ∷ a7 ∷ a8 ∷ a9 ∷ a10 ∷ a11 ∷ a12 ∷ a13 ∷ a14 ∷ a15 ∷ a16 ∷ [])
are_digits a0 a1 a2 a3 a4 a5 a6 a7 a8 a9 a10 a11 a12 a13 a14 a15 a16 =
    each_place (λ k. IsDigit (slice_index (a0 ∷ a1 ∷ a2 ∷ a3 ∷ a4 ∷ a5 ∷ a6 ∷ a7 ∷ a8 ∷ a9 ∷ a10 ∷ a11 ∷ a12 ∷ a13 ∷ a14 ∷ a15 ∷ a16 ∷ []) k))

pub day_number_at : (y m d y₂ m₂ d₂ : ℕ) → y ≡ y₂ → m ≡ m₂ → d ≡ d₂ → day_number y m d ≡ day_number y₂ m₂ d₂
day_number_at y m d y₂ m₂ d₂ year month day = rw (year, month, day)

-- the moment of an expiry lies in the years 0 to 9999, where its day number does
pub moment_in : (text : List ℕ) → IsExpiry text → IsDayNumber (day_number (year text) (month text) (day text)) → IsMoment (moment_of text)
moment_in text h day_in =
    let below = time_of_day_below text h in
    (omega (arith, signed_arith, below, day_in.0, day_in.1), omega (arith, signed_arith, below, day_in.0, day_in.1))
