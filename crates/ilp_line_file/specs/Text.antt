-- Which lines a file has.
use Rattle.std.specs.Prelude.{◌≡◌, ◌≢◌, ℕ, List, [], ◌∷◌, ◌++◌, if◌then◌else◌, ◌==◌}
use mathlib.Core.List.{IsPrefix}

-- the whole lines of these octets up to the first NUL, where `part` is the line that has begun
abbrev pub lines_from : List ℕ → List ℕ → List (List ℕ)
lines_from part [] = []
lines_from part (b ∷ octets) = if b == 0 then [] else if b == 10 then part ∷ lines_from [] octets else lines_from (part ++ b ∷ []) octets

-- The list that a file stands for: its whole lines before the first NUL.
abbrev pub recovered : List ℕ → List (List ℕ)
recovered file = lines_from [] file

-- lines, with a line feed behind each
abbrev pub text_of : List (List ℕ) → List ℕ
text_of [] = []
text_of (line ∷ lines) = line ++ 10 ∷ text_of lines

-- neither a NUL nor a line feed is in it
abbrev pub IsLine : List ℕ → Type 0
IsLine [] = Unit {0}
IsLine (b ∷ octets) = (b ≢ 0) × (b ≢ 10) × IsLine octets

abbrev pub AreLines : List (List ℕ) → Type 0
AreLines [] = Unit {0}
AreLines (line ∷ lines) = IsLine line × AreLines lines

-- whole lines and nothing else
abbrev pub IsText : List ℕ → Type 0
IsText text = text ≡ text_of (recovered text)

-- nothing but zeros
abbrev pub IsBlank : List ℕ → Type 0
IsBlank [] = Unit {0}
IsBlank (b ∷ octets) = (b ≡ 0) × IsBlank octets

-- the file has these lines at least, and no others than those
pub record IsBetween (least most : List (List ℕ)) (file : List ℕ) : Type 0 where
  pub has : IsPrefix least (recovered file)
  pub begins : IsPrefix (recovered file) most
