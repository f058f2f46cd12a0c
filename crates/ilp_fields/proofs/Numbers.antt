-- Plain numbers are numerals.
use Rattle.std.proofs.Common.{◌≡◌, ℕ, ◌<◌, ◌≤◌, ◌^◌, Bool, true, false, ◌==◌, nat_le, nat_lt, if◌then◌else◌, List, [], ◌∷◌, length, drop, cond, Some, None, refl, arith}
use Rattle.std.proofs.lemmas.Bool.{and_parts}
use Rattle.std.proofs.lemmas.Str.Parse.{tells_digits}
use Rattle.std.specs.List.{list_all}
use Rattle.std.specs.Str.Parse.{IsNumeral, AllDigits, without_leading_plus, digits_value}
use Rattle.ilp_fields.specs.Forms.{is_digit}
use Rattle.ilp_fields.specs.Named.{is_plain_number, scale_named}

-- octets from 48 to 57 are digits
pub all_digits : (ds : List ℕ) → list_all is_digit ds ≡ true → AllDigits 10 ds
all_digits [] all = tt
all_digits (d ∷ ds) all =
    let both = and_parts (is_digit d) (list_all is_digit ds) all in
    let range = and_parts (nat_le 48 d) (nat_le d 57) both.0 in
    tells_digits.more d ds (grind (arith, range.0), grind (arith, range.1)) (all_digits ds both.1)

-- no sign stands before digits
no_plus : (d : ℕ) (ds : List ℕ) (plus : Bool) → (d == 43) ≡ plus → 48 ≤ d → drop (cond plus 1 0) (d ∷ ds) ≡ d ∷ ds
no_plus d ds true e low = absurd (grind (arith, e, low))
no_plus d ds false e low = refl

no_sign : (ds : List ℕ) → list_all is_digit ds ≡ true → without_leading_plus ds ≡ ds
no_sign [] all = refl
no_sign (d ∷ ds) all =
    let both = and_parts (is_digit d) (list_all is_digit ds) all in
    let range = and_parts (nat_le 48 d) (nat_le d 57) both.0 in
    no_plus d ds (d == 43) refl (grind (arith, range.0))

-- a plain number is a numeral without a sign
pub plain_numeral : (ds : List ℕ) → is_plain_number ds ≡ true → IsNumeral 10 ds × (without_leading_plus ds ≡ ds)
plain_numeral ds plain =
    let parts = and_parts (nat_lt 0 (length ds)) _ plain in
    let digits = and_parts (list_all is_digit ds) _ parts.1 in
    ((grind (arith, parts.0), all_digits ds digits.0), no_sign ds digits.0)

-- a plain number that is no numeral below 256 tells no scale
too_great : (ds : List ℕ) (fits : Bool) → nat_le (digits_value 10 ds) 255 ≡ fits → ¬ (digits_value 10 ds < 2 ^ 8)
    → None ≡ (if fits then Some (digits_value 10 ds) else None)
too_great ds true e refused = absurd (refused (grind (arith, e)))
too_great ds false e refused = refl

pub no_scale : (ds : List ℕ) → is_plain_number ds ≡ true
    → ¬ (IsNumeral 10 (without_leading_plus ds) × (digits_value 10 (without_leading_plus ds) < 2 ^ 8)) → None ≡ scale_named ds
no_scale ds plain refused =
    let numeral = plain_numeral ds plain in
    rw plain (too_great ds (nat_le (digits_value 10 ds) 255) refl (λ small. refused (rw numeral.1 numeral.0, rw numeral.1 small)))
