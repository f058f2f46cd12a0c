-- The first line of a text, the first field of a line, and what follows four of them.
use Rattle.std.proofs.Common.{refl, ap, ◌∙◌, ◌≡◌, ◌≢◌, ℕ, zero, suc, ◌+◌, ◌<◌, List, [], ◌∷◌, length, take, drop, arith}
use Rattle.std.specs.List.{slice_split, join_with_byte}
use Rattle.std.proofs.lemmas.Bool.Decides.{nat_tests}
use Rattle.std.proofs.lemmas.List.Splits.{length-slice_split, join_with_byte-slice_split}
use Rattle.ilp_offline.specs.Script.{lines_of, is_space, with_rest, fields_of, StandsFirst, HasNoneBelow}

-- the line before the first LF, and the lines after it
pub lines_of-ended : (xs : List ℕ) (end : ℕ) → StandsFirst 10 xs end → lines_of xs ≡ take end xs ∷ lines_of (drop (end + 1) xs)
lines_of-ended [] end at = absurd (omega (arith, at.0))
lines_of-ended (x ∷ xs) zero at = grind (arith, nat_tests, at.1)
lines_of-ended (x ∷ xs) (suc end) at =
    let other : x ≢ 10 = at.2 0 (omega arith) in
    let rest : lines_of xs ≡ take end xs ∷ lines_of (drop (end + 1) xs) =
    lines_of-ended xs end (omega (arith, at.0), at.1, λ k below. at.2 (suc k) (omega arith)) in
    grind (arith, nat_tests, other, rest)

-- a line without LF
pub lines_of-last : (x : ℕ) (xs : List ℕ) → HasNoneBelow 10 (x ∷ xs) (length (x ∷ xs)) → lines_of (x ∷ xs) ≡ (x ∷ xs) ∷ []
lines_of-last x [] none = let other : x ≢ 10 = none 0 (omega arith) in grind (arith, nat_tests, other)
lines_of-last x (y ∷ ys) none =
    let other : x ≢ 10 = none 0 (omega arith) in
    let rest : lines_of (y ∷ ys) ≡ (y ∷ ys) ∷ [] = lines_of-last y ys (λ k below. none (suc k) (omega arith)) in
    grind (arith, nat_tests, other, rest)

pub lines_of-whole : (xs : List ℕ) → 0 < length xs → HasNoneBelow 10 xs (length xs) → lines_of xs ≡ xs ∷ []
lines_of-whole [] some none = absurd (omega arith)
lines_of-whole (x ∷ xs) some none = lines_of-last x xs none

-- the field before the first space, and the fields after it
pub fields-ended : (xs : List ℕ) (end : ℕ) → StandsFirst 32 xs end → slice_split is_space xs ≡ take end xs ∷ slice_split is_space (drop (end + 1) xs)
fields-ended [] end at = absurd (omega (arith, at.0))
fields-ended (x ∷ xs) zero at = grind (arith, nat_tests, at.1)
fields-ended (x ∷ xs) (suc end) at =
    let other : x ≢ 32 = at.2 0 (omega arith) in
    let rest : slice_split is_space xs ≡ take end xs ∷ slice_split is_space (drop (end + 1) xs) =
    fields-ended xs end (omega (arith, at.0), at.1, λ k below. at.2 (suc k) (omega arith)) in
    grind (arith, nat_tests, other, rest)

-- a text without a space is one field
pub fields-whole : (xs : List ℕ) → HasNoneBelow 32 xs (length xs) → slice_split is_space xs ≡ xs ∷ []
fields-whole [] none = refl
fields-whole (x ∷ xs) none =
    let other : x ≢ 32 = none 0 (omega arith) in
    let rest : slice_split is_space xs ≡ xs ∷ [] = fields-whole xs (λ k below. none (suc k) (omega arith)) in
    grind (arith, nat_tests, other, rest)

-- four fields and more: the fifth joins what was parted
pub with_rest-more : (a b c d : List ℕ) (parts : List (List ℕ)) → 0 < length parts → with_rest (a ∷ b ∷ c ∷ d ∷ parts) ≡ a ∷ b ∷ c ∷ d ∷ join_with_byte 32 parts ∷ []
with_rest-more a b c d [] some = absurd (omega arith)
with_rest-more a b c d (part ∷ parts) some = refl

-- after four spaces the rest of the line is the fifth field
pub fields_of-rest : (line a b c d rest : List ℕ) → slice_split is_space line ≡ a ∷ b ∷ c ∷ d ∷ slice_split is_space rest → fields_of line ≡ a ∷ b ∷ c ∷ d ∷ rest ∷ []
fields_of-rest line a b c d rest parted =
    let parts = length-slice_split is_space rest in
    let some : 0 < length (slice_split is_space rest) = omega (arith, parts) in
    ap with_rest parted ∙ with_rest-more a b c d (slice_split is_space rest) some
    ∙ ap (λ (last : List ℕ). a ∷ b ∷ c ∷ d ∷ last ∷ []) (join_with_byte-slice_split 32 rest)
