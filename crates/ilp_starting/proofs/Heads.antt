-- The text of whole lines.
use Rattle.std.proofs.Common.{◌≡◌, ◌∙◌, ℕ, List, sym, ap}
use Rattle.ilp_line_file.specs.Text.{recovered, text_of, AreLines, IsText}
use Rattle.ilp_line_file.proofs.Whole.{text_lines}

pub are_text : (text : List ℕ) (lines : List (List ℕ)) → text ≡ text_of lines → AreLines lines → IsText text
are_text text lines is good = is ∙ ap (λ (l : List (List ℕ)). text_of l) (sym (ap (λ (t : List ℕ). recovered t) is ∙ text_lines lines good))
