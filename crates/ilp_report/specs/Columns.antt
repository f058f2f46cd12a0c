-- What fits the columns of a line.
use Rattle.std.specs.Prelude.{ℕ, ◌≤◌, ℤ, List, length}
use Rattle.std.specs.Fmt.{signed_decimal}

-- a name fits its column
abbrev pub IsShort : List ℕ → Type 0
IsShort name = length name ≤ 20

-- a number fits its column
abbrev pub IsNarrow : ℤ → Type 0
IsNarrow number = length (signed_decimal number) ≤ 30
