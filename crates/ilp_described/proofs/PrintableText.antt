-- Octets that are printed as they are, as text.
use Rattle.std.proofs.Common.{zero, suc, ◌≡◌, ◌<◌, ℕ, List, [], ◌∷◌, true, arith}
use Rattle.std.specs.List.{list_all}
use Rattle.std.specs.Str.{IsAscii, IsUtf8}
use Rattle.std.proofs.lemmas.Bool.Decides.{nat_tests}
use Rattle.std.proofs.lemmas.Str.{IsUtf8-from_ascii}
use Rattle.ilp_described.specs.Printable.{is_printable}

-- spaces and visible ASCII are text
pub IsUtf8-printable : (text : List ℕ) → list_all is_printable text ≡ true → IsUtf8 text
IsUtf8-printable text printable = IsUtf8-from_ascii text (ascii text printable) where
  ascii : (xs : List ℕ) → list_all is_printable xs ≡ true → IsAscii xs
  ascii [] h = λ i. omega arith
  ascii (x ∷ xs) h = by_place x xs (grind (arith, nat_tests)) (ascii xs (grind (arith, nat_tests)))
    where
      by_place : (y : ℕ) (ys : List ℕ) → y < 128 → IsAscii ys → IsAscii (y ∷ ys)
      by_place y ys first rest zero = first
      by_place y ys first rest (suc i) = rest i
