-- The text of a moment by RFC 3339: YYYY-MM-DDTHH:MM:SS.mmmZ.
use Rattle.std.specs.Prelude.{◌≡◌, ℕ, ◌+◌, List, [], ◌∷◌, ◌++◌, codes, slice_index, ℤ}
use Rattle.ilp_terms.specs.Expiry.{IsExpiry, moment_of}

-- the two digits from a place on
abbrev pub two : List ℕ → ℕ → List ℕ
two digits place = slice_index digits place ∷ slice_index digits (place + 1) ∷ []

-- the digits of an expiry, YYYYMMDDHHMMSSmmm, with what stands between them
abbrev pub separated : List ℕ → List ℕ
separated digits =
    two digits 0 ++ two digits 2 ++ codes "-" ++ two digits 4 ++ codes "-" ++ two digits 6
    ++ codes "T" ++ two digits 8 ++ codes ":" ++ two digits 10 ++ codes ":" ++ two digits 12
    ++ codes "." ++ two digits 14 ++ slice_index digits 16 ∷ [] ++ codes "Z"

-- The text has the digits of the expiry that names the moment.
pub record IsTimeText (moment : ℤ) (text : List ℕ) : Type 0 where
  pub digits : List ℕ
  pub expiry : IsExpiry digits
  pub names : moment_of digits ≡ moment
  pub text_is : text ≡ separated digits
