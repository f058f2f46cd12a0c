use Rattle.std.proofs.Common.{◌≡◌, ◌++◌, Some, None, sym, ap, ◌∙◌}
use Rattle.std.proofs.lemmas.Bool.Decides.{Decides-eqb}
use Rattle.std.proofs.lemmas.Slice.Eq.{strip_prefix_is}
use Rattle.ilp_journal_text.specs.Text.{first_line}
use Rattle.ilp_journal_text.proofs.reading.first_line_in.Goals as goal

pub returns-in-Some-clause-some : goal.returns-in-Some-clause-some
returns-in-Some-clause-some c =
    let line = c.as_slice.ensures ∙ c.first.ensures in
    let found = strip_prefix_is Decides-eqb c.args.text.now c.as_slice.result.now (Some c.in-Some.rest) c.in-Some.ensures.cases in
    found ∙ ap (λ octets. octets ++ c.in-Some.rest.now) line

pub returns-in-None-clause-none : goal.returns-in-None-clause-none
returns-in-None-clause-none c = λ period after fits whole.
    let line = c.as_slice.ensures ∙ c.first.ensures in
    let same : c.period_in-period.result ≡ period = c.period_in-period.ensures period after fits whole in
    strip_prefix_is Decides-eqb c.args.text.now c.as_slice.result.now None c.in-None.ensures.cases after
    (whole ∙ ap (λ octets. octets ++ after) (ap first_line (sym same) ∙ sym line))
