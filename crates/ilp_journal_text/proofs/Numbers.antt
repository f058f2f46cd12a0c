-- What was written as a number is read as that number.
use Rattle.std.proofs.Common.{◌≡◌, ℕ, ◌^◌, ◌<◌, ℤ, pos, negsuc, List, Result, Ok, true, sym, ap, subst, ◌∙◌, arith, w64, FitsSigned, to_z, of_z}
use lib.Signed.{mag, lt_z}
use Rattle.std.specs.Fmt.{decimal, signed_decimal}
use Rattle.std.specs.Str.{IsAscii, IsUtf8}
use Rattle.std.specs.Str.Parse.{ParsesUnsigned, ParsesSigned}
use Rattle.std.proofs.lemmas.Fmt.{IsAscii-decimal_wide, parse-decimal_wide, IsAscii-signed, parse-signed_decimal}
use Rattle.std.proofs.lemmas.Int.{ints, to_z-of_z}
use Rattle.std.proofs.lemmas.Bool.Decides.{nat_tests}
use Rattle.std.proofs.lemmas.Str.{IsUtf8-from_ascii}
use Rattle.ilp_journal_text.specs.Reading.{IsMoment}

-- a number is text
pub number_text : (n : ℕ) (field : List ℕ) → n < 10 ^ 64 → field ≡ decimal n → IsUtf8 field
number_text n field fits is = IsUtf8-from_ascii field (subst IsAscii (sym is) (IsAscii-decimal_wide n fits))

pub number_read : {E : Type 0} (bits n : ℕ) (field text : List ℕ) (r : Result ℕ E) → n < 2 ^ bits → n < 10 ^ 64 → field ≡ decimal n → text ≡ field → ParsesUnsigned bits 10 text r → r ≡ Ok n
number_read bits n field text r fits wide is same parses = parse-decimal_wide bits n text r fits wide (same ∙ is) parses

moment_fits : (m : ℤ) → IsMoment m → FitsSigned w64 m × (mag m < 2 ^ 63)
moment_fits (pos n) within =
    let below : n < 2 ^ 63 = omega (arith, ints, within.1) in
    (record { sfits = below }, below)
moment_fits (negsuc n) within = absurd (omega (arith, ints, within.0))

pub moment_text : (m : ℤ) (field : List ℕ) → IsMoment m → field ≡ signed_decimal m → IsUtf8 field
moment_text m field within is = IsUtf8-from_ascii field (subst IsAscii (sym is) (IsAscii-signed m (moment_fits m within).1))

pub moment_read : {E : Type 0} (m : ℤ) (field text : List ℕ) (r : Result ℤ E) → IsMoment m → field ≡ signed_decimal m → text ≡ field → ParsesSigned w64 10 text r → r ≡ Ok m
moment_read m field text r within is same parses = parse-signed_decimal w64 m text r (moment_fits m within).0 (moment_fits m within).1 (same ∙ is) parses

-- a moment is kept, and does not lie before 1970
module _ (m moment : ℤ) (within : IsMoment m) (same : moment ≡ m) where
  pub moment_kept : to_z w64 (of_z w64 moment) ≡ m
  moment_kept = ap (λ z. to_z w64 (of_z w64 z)) same ∙ to_z-of_z w64 m (moment_fits m within).0

  pub moment_not_below : lt_z (to_z w64 (of_z w64 moment)) (pos 0) ≡ true → ⊥
  moment_not_below below =
      let less : lt_z m (pos 0) ≡ true = subst (λ z. lt_z z (pos 0) ≡ true) moment_kept below in
      after m within less
    where
      after : (z : ℤ) → IsMoment z → lt_z z (pos 0) ≡ true → ⊥
      after (pos n) within less = grind (arith, nat_tests, less)
      after (negsuc n) within less = omega (arith, ints, within.0)

-- a balance is text, is read and kept
balance_size : (b : ℤ) → FitsSigned w64 b → mag b < 2 ^ 63
balance_size (pos n) fits = fits.sfits
balance_size (negsuc n) fits = fits.sfits

pub balance_text : (b : ℤ) (field : List ℕ) → FitsSigned w64 b → field ≡ signed_decimal b → IsUtf8 field
balance_text b field fits is = IsUtf8-from_ascii field (subst IsAscii (sym is) (IsAscii-signed b (balance_size b fits)))

pub balance_read : {E : Type 0} (b : ℤ) (field text : List ℕ) (r : Result ℤ E) → FitsSigned w64 b → field ≡ signed_decimal b → text ≡ field → ParsesSigned w64 10 text r → r ≡ Ok b
balance_read b field text r fits is same parses = parse-signed_decimal w64 b text r fits (balance_size b fits) (same ∙ is) parses

pub balance_kept : (b balance : ℤ) → FitsSigned w64 b → balance ≡ b → to_z w64 (of_z w64 balance) ≡ b
balance_kept b balance fits same = ap (λ z. to_z w64 (of_z w64 z)) same ∙ to_z-of_z w64 b fits
