-- One line of a text, and what stands behind it.
use Rattle.std.specs.Prelude.{◌≡◌, List, ℕ, ◌∷◌}
use Rattle.ilp_line_file.specs.Text.{recovered, IsText}

-- the first line of a text is cut off
pub record CutsLine (text line rest : List ℕ) : Type 0 where
  pub first : recovered text ≡ line ∷ recovered rest
  pub behind : IsText rest
