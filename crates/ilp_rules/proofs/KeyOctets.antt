-- The octets of settlements' keys are visible.
use Rattle.std.proofs.Common.{◌≡◌, ℕ, ◌<◌, ◌^◌, Bool, true, false, cond, List, [], ◌∷◌, ◌++◌, refl, sym, ap, ◌∙◌, arith}
use Rattle.std.specs.Prelude.{codes, ◌==◌, ◌&&◌, IsTrue}
use Rattle.std.specs.Fmt.{decimal}
use Rattle.std.specs.List.{list_all}
use Rattle.std.specs.Str.Parse.{AllDigits}
use Rattle.std.proofs.lemmas.Bool.Decides.{nat_tests}
use Rattle.std.proofs.lemmas.Fmt.{decimal_is_IsNumeral_wide}
use Rattle.std.proofs.lemmas.List.Folds.{list_all-append}
use Rattle.std.proofs.lemmas.Str.Parse.{digit_from_value}
use Rattle.ilp_accounts.specs.Valid.{HasForm}
use Rattle.ilp_fields.specs.Forms.{is_run_octet}
use Rattle.ilp_fields.specs.declared.form.Form.TheVariants as form
use Rattle.ilp_rules.specs.Heads.{is_key_octet, period_mark}

abbrev pub AreVisible : List ℕ → Type 0
AreVisible octets = IsTrue (list_all is_key_octet octets)

-- what two visible texts make is visible
pub both_visible : (xs ys : List ℕ) → AreVisible xs → AreVisible ys → AreVisible (xs ++ ys)
both_visible xs ys first second = list_all-append is_key_octet xs ys ∙ ap (λ b. b && list_all is_key_octet ys) first ∙ second

-- a run is
run_octets : (xs : List ℕ) → list_all is_run_octet xs ≡ true → AreVisible xs
run_octets [] all = refl
run_octets (x ∷ xs) all =
    let rest : AreVisible xs = run_octets xs (grind (arith, nat_tests)) in
    let first : is_key_octet x ≡ true = grind (arith, nat_tests) in
    ap (λ b. b && list_all is_key_octet xs) first ∙ rest

pub run_visible : (run : List ℕ) → HasForm form.Run run → AreVisible run
run_visible run has = run_octets run (grind (arith, nat_tests))

-- digits are
digits_seen : (digits : List ℕ) → AllDigits 10 digits → AreVisible digits
digits_seen [] all = refl
digits_seen (x ∷ xs) all =
    let digit = digit_from_value x all.0 in
    let first : is_key_octet x ≡ true = grind (arith, nat_tests, digit.0, digit.1) in
    ap (λ b. b && list_all is_key_octet xs) first ∙ digits_seen xs all.1

pub digits_visible : (n : ℕ) → n < 2 ^ 32 → AreVisible (decimal n)
digits_visible n fits = digits_seen (decimal n) (decimal_is_IsNumeral_wide n (omega (arith, fits))).0.1

-- and the mark of a period
pub mark_visible : (period : ℕ) → period < 2 ^ 32 → AreVisible (period_mark period)
mark_visible period fits = by (period == 0)
  where
    by : (b : Bool) → AreVisible (cond b (codes "-") (codes "." ++ (decimal period ++ codes "-")))
    by true = refl
    by false = both_visible (codes ".") (decimal period ++ codes "-") refl (both_visible (decimal period) (codes "-") (digits_visible period fits) refl)
