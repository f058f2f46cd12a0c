use Rattle.std.proofs.Common.{◌++◌, Some, None, sym, ap, ◌∙◌}
use Rattle.std.specs.Prelude.{codes}
use Rattle.std.specs.Fmt.{decimal}
use Rattle.std.proofs.lemmas.Bool.Decides.{Decides-eqb}
use Rattle.std.proofs.lemmas.Slice.Eq.{strip_prefix_is, starts_is}
use Rattle.ilp_rules.proofs.KeyFronts.{begins_on, begins_not, begins_or_not, untrue}
use Rattle.ilp_rules.proofs.carrying.heads.has_number.Goals as goal

pub returns-in-Some : goal.returns-in-Some
returns-in-Some c =
    let rest = c.args.rest.now in
    let digits = c.as_bytes.ensures.value ∙ c.format.ensures.text in
    let found = strip_prefix_is Decides-eqb rest c.as_bytes.result.now (Some c.in-Some.rest) c.in-Some.ensures.cases in
    begins_on (decimal c.args.period) rest c.in-Some.rest.now (found ∙ ap (λ o. o ++ c.in-Some.rest.now) digits) (codes "-") c.starts_with.result
    (begins_or_not c.in-Some.rest.now (codes "-") c.starts_with.result (starts_is Decides-eqb c.in-Some.rest.now (codes "-") c.starts_with.result c.starts_with.ensures.value))

pub returns-in-None : goal.returns-in-None
returns-in-None c =
    let rest = c.args.rest.now in
    let digits = c.as_bytes.ensures.value ∙ c.format.ensures.text in
    let none = strip_prefix_is Decides-eqb rest c.as_bytes.result.now None c.in-None.ensures.cases in
    untrue (begins_not (decimal c.args.period) (codes "-") rest (λ after is. none after (is ∙ ap (λ o. o ++ after) (sym digits))))
