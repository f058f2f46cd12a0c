use Rattle.std.proofs.Common.{◌++◌, Some, None, sym, ap, ◌∙◌}
use Rattle.std.proofs.lemmas.Bool.Decides.{Decides-eqb}
use Rattle.std.proofs.lemmas.Slice.Eq.{strip_prefix_is}
use Rattle.ilp_rules.specs.Heads.{period_mark}
use Rattle.ilp_rules.proofs.KeyFronts.{marks_on, begins_not, untrue}
use Rattle.ilp_rules.proofs.carrying.heads.is_of_period_from.Goals as goal

pub returns-in-Some : goal.returns-in-Some
returns-in-Some c =
    let run = c.as_bytes.ensures.value ∙ c.run.ensures in
    let found = strip_prefix_is Decides-eqb c.args.key.now c.as_bytes.result.now (Some c.in-Some.rest) c.in-Some.ensures.cases in
    marks_on c.args.config.now.settings.run c.args.key.now c.in-Some.rest.now (found ∙ ap (λ o. o ++ c.in-Some.rest.now) run) c.args.period c.has_mark_from.result c.has_mark_from.ensures

pub returns-in-None : goal.returns-in-None
returns-in-None c =
    let run = c.as_bytes.ensures.value ∙ c.run.ensures in
    let none = strip_prefix_is Decides-eqb c.args.key.now c.as_bytes.result.now None c.in-None.ensures.cases in
    untrue (λ of. begins_not c.args.config.now.settings.run (period_mark of.0) c.args.key.now (λ rest is. none rest (is ∙ ap (λ o. o ++ rest) (sym run))) of.3)
