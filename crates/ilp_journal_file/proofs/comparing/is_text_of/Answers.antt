use Rattle.std.proofs.Common.{◌∙◌, ℕ, List, length, take, sym, ap}
use Rattle.std.proofs.Math.Seq.{take-length}
use Rattle.std.proofs.lemmas.Bool.{eqb-true}
use Rattle.ilp_journal_file.proofs.comparing.is_text_of.Goals as goal

-- all of the text was taken
pub returns-in-Ok : goal.returns-in-Ok
returns-in-Ok g c all =
    let text : List ℕ = g.N.TextName.text in
    let sink = c.put.new.sink in
    sym c.in-Ok.ensures ∙ ap (λ (n : ℕ). take n text) (eqb-true sink.count (length sink.text.now) all ∙ ap (λ (l : List ℕ). length l) sink.is) ∙ take-length text
