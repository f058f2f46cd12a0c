use Rattle.std.proofs.Common.{◌∙◌}
use Rattle.std.specs.Fmt.{decimal}
use Rattle.std.proofs.lemmas.Slice.Eq.{slice_eq-Decides}
use Rattle.std.proofs.lemmas.Bool.Decides.{Decides-eqb}
use Rattle.ilp_statement_text.proofs.Fronts.{told_as, told_behind}
use Rattle.ilp_statement_text.proofs.key.is_numbered.Goals as goal

pub returns-in-Some : goal.returns-in-Some
returns-in-Some c =
    let told = slice_eq-Decides Decides-eqb c.in-Some.rest.now c.as_bytes.result.now c.eq.result c.eq.ensures in
    let digits = c.as_bytes.ensures.value ∙ c.format.ensures.text in
    told_behind c.eq.result c.args.octets.now c.args.front.now c.in-Some.rest.now (decimal c.args.number) c.in-Some.ensures
    (told_as c.eq.result c.in-Some.rest.now c.as_bytes.result.now (decimal c.args.number) digits told)
