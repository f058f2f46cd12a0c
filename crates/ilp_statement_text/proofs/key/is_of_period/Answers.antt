use Rattle.std.proofs.Common.{◌++◌, codes, ap, ◌∙◌}
use Rattle.std.specs.Fmt.{decimal}
use Rattle.ilp_statement_text.proofs.Fronts.{told_behind}
use Rattle.ilp_statement_text.proofs.key.is_of_period.Goals as goal

pub returns-in-Some : goal.returns-in-Some
returns-in-Some c =
    let digits = c.as_bytes.ensures.value ∙ c.format.ensures.text in
    told_behind c.is_numbered.result c.args.octets.now (decimal c.args.period) c.in-Some.rest.now (codes "-" ++ decimal c.args.number)
    (c.in-Some.ensures ∙ ap (λ front. front ++ c.in-Some.rest.now) digits) c.is_numbered.ensures
