-- What the second line of a log says, in the form in which it is kept beside a journal.
use Rattle.std.specs.Prelude.{ℕ, Bool, ◌==◌, if◌then◌else◌, List, [], ◌∷◌, ◌++◌, codes}
use Rattle.std.specs.List.{flat_map, slice_split}
use Rattle.ilp_remembered.specs.Remembered.{first_line, last_line}

abbrev pub is_semicolon : ℕ → Bool
is_semicolon octet = octet == 59

-- without a space that it begins with
abbrev pub unspaced : List ℕ → List ℕ
unspaced [] = []
unspaced (octet ∷ octets) = if octet == 32 then octets else octet ∷ octets

-- a line of what stands between two semicolons, with its end
abbrev pub whole_line : List ℕ → List ℕ
whole_line part = unspaced part ++ codes "\n"

-- a line of each part of the second line, and around them the first line and the last of what is remembered
abbrev pub remembered_in : List ℕ → List ℕ
remembered_in line = first_line ++ (flat_map whole_line (slice_split is_semicolon line) ++ last_line)
