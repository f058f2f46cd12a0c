use Rattle.std.proofs.Common.{◌≡◌, ℕ, List, codes, ◌∙◌}
use Rattle.std.specs.Borrow.{Bor}
use Rattle.std.proofs.lemmas.Bool.Decides.{Decides-eqb}
use Rattle.std.proofs.lemmas.Slice.Eq.{strip_prefix_is}
use Rattle.ilp_journal_text.proofs.FirstLines.{first_body, first_clean, first_parts, told_number}
use Rattle.ilp_journal_text.proofs.reading.later_field.Goals as goal

pub returns-in-Ok : goal.returns-in-Ok
returns-in-Ok c = λ period after fits whole.
    let is : c.in-Ok.line.now ≡ first_body period = c.in-Ok.ensures (first_body period) after (first_clean period fits) (whole ∙ first_parts period after) in
    told_number (λ (field : Bor (List ℕ)). field.now) period c.in-Ok.line.now c.strip_prefix.result is
    (strip_prefix_is Decides-eqb c.in-Ok.line.now (codes "ilp-journal 2 ") c.strip_prefix.result c.strip_prefix.ensures.cases)

pub returns-in-Err : goal.returns-in-Err
returns-in-Err c = λ period after fits whole.
    absurd (c.in-Err.ensures (first_body period) after (first_clean period fits) (whole ∙ first_parts period after))
