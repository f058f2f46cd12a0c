use Rattle.std.proofs.Common.{◌≡◌, sym, ap, ◌∙◌}
use Rattle.std.specs.Fmt.{decimal}
use Rattle.std.proofs.lemmas.Bool.{false≢true}
use Rattle.std.proofs.lemmas.Slice.Eq.{bytes_eq-Decides}
use Rattle.ilp_log_text.proofs.Origins.{number_text, number_read}
use Rattle.ilp_log_text.proofs.first_line.count_in.Goals as goal

pub returns-in_default-clause-none : goal.returns-in_default-clause-none
returns-in_default-clause-none c = λ count fits is. c.in_default.ensures.cases.0 (number_text count c.args.field.now fits is)

pub returns-in_default-parse-clause-none : goal.returns-in_default-parse-clause-none
returns-in_default-parse-clause-none c = λ count fits is.
    c.in_default-parse.not-Ok count (number_read count c.args.field.now _ _ fits is c.in-Ok.ensures.cases.0 c.parse.ensures.value.0)

pub returns-else-eq-clause-none : goal.returns-else-eq-clause-none
returns-else-eq-clause-none c = λ count fits is.
    let read = number_read count c.args.field.now _ c.parse.result fits is c.in-Ok.ensures.cases.0 c.parse.ensures.value.0 in
    let same : c.in-Ok-parse.count ≡ count = cc (sym c.in-Ok-parse.is ∙ read) in
    let spelled = c.as_bytes.ensures.value ∙ c.format.ensures.text ∙ ap decimal same ∙ sym is in
    false≢true (sym c.if-eq.false ∙ c.eq.ensures ∙ (bytes_eq-Decides _ _).1 spelled)
