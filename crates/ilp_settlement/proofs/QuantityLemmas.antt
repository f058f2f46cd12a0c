-- What is read of octets, as UTF-8 and as JSON.
use Rattle.std.proofs.Common.{◌≡◌, ◌≤◌, ℕ, List, length, Option, Some, None, Bool, true, false, cond, refl, arith}
use Rattle.std.specs.Str.{IsUtf8, is_utf8}
use Rattle.std.proofs.lemmas.Str.{is_utf8-from_IsUtf8, IsUtf8-from_is_utf8}
use Rattle.serde_json.specs.Data.{Data}
use Rattle.serde_json.specs.Read.{read}
use Rattle.std.specs.Char.{is_ascii_digit}
use Rattle.std.specs.List.{list_all}
use Rattle.std.proofs.lemmas.Bool.Decides.{nat_tests}
use Rattle.ilp_settlement.specs.Quantity.{is_amount_text, value_in}

pub value_read : (octets : List ℕ) (value : Data) → IsUtf8 octets → read octets ≡ Some value → value_in octets ≡ Some value
value_read octets value utf8 is = rw (is_utf8-from_IsUtf8 octets utf8) is

pub value_not_read : (octets : List ℕ) → (IsUtf8 octets → read octets ≡ None) → value_in octets ≡ None
value_not_read octets h = by_test (is_utf8 octets) (read octets) (λ yes. h (IsUtf8-from_is_utf8 octets yes)) where
  by_test : (b : Bool) (o : Option Data) → (b ≡ true → o ≡ None) → cond b o None ≡ None
  by_test true o k = k refl
  by_test false o k = refl

pub amount_text_parts : (text : List ℕ) → is_amount_text text ≡ true → (1 ≤ length text) × (length text ≤ 38) × (list_all is_ascii_digit text ≡ true)
amount_text_parts text h = grind (arith, nat_tests)
