use Rattle.std.proofs.Common.{◌≡◌, ℕ, List, [], sym, ap, ◌∙◌}
use Rattle.std.proofs.lemmas.Bool.{eqb-true}
use Rattle.std.proofs.lemmas.List.{nil_from_length}
use Rattle.ilp_line_file.specs.Text.{AreLines, recovered, text_of}
use Rattle.ilp_line_file.proofs.Whole.{text_lines}
use Rattle.ilp_starting.proofs.ended.beside_own_text.Goals as goal

-- lines without an octet are none
no_lines : (lines : List (List ℕ)) → AreLines lines → text_of lines ≡ [] → lines ≡ []
no_lines lines are empty = sym (text_lines lines are) ∙ ap recovered empty

pub returns-then-is_empty : goal.returns-then-is_empty
returns-then-is_empty g c = record {
  over = λ _.
      let none = nil_from_length c.lines.result.now (eqb-true _ _ (sym c.is_empty.ensures ∙ c.if-is_empty.true)) in
      no_lines c.args.log.now.lines c.lines.ensures.lines (sym c.lines.ensures.text ∙ none);
}
