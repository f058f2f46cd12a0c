-- Texts, no two of which are equal, and the place of one among them.
use Rattle.std.specs.Prelude.{◌≡◌, ◌≢◌, ℕ, ◌^◌, ◌<◌, List, length, Option, Some, None, AllPairs, Contains, slice_get}

-- The answer is the one place at which the text stands, and none where it stands nowhere.
abbrev pub IsPlaceOf : List (List ℕ) → List ℕ → Option ℕ → Type 0
IsPlaceOf texts text None = ¬ Contains texts text
IsPlaceOf texts text (Some place) = (slice_get texts place ≡ Some text)
    × ((other : ℕ) → slice_get texts other ≡ Some text → other ≡ place)

-- texts of which each has a place of 32 bits and no two are equal
pub record AreIndexed (texts : List (List ℕ)) : Type 0 where
  pub few : length texts < 2 ^ 32
  pub distinct : AllPairs (λ text later. text ≢ later) texts
