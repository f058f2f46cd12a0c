use Rattle.std.proofs.Common.{◌≡◌, ◌≤◌, ◌++◌, List, ℕ, take}
use Rattle.ilp_line_file.specs.Text.{text_of, IsLine, AreLines}
use Rattle.ilp_line_file.proofs.line_file.end_of.Given as goal

-- what was passed is whole lines, and the line that has begun
abbrev pub invariant-loop-at : goal.invariant-loop-at
invariant-loop-at l =
    (l.end ≤ l.at) × ((done : List (List ℕ)) × (part : List ℕ) × (take l.end l.octets ≡ text_of done) × (take l.at l.octets ≡ text_of done ++ part) × AreLines done × IsLine part)
