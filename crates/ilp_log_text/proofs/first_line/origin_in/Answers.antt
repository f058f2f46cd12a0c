use Rattle.std.proofs.Common.{ℕ, ◌-◌, List, ◌++◌, length, drop, Some, None, codes, sym, ap, ◌∙◌, arith, append_assoc, take-append-drop}
use Rattle.std.proofs.lemmas.Bool.Decides.{Decides-eqb}
use Rattle.std.proofs.lemmas.Slice.Eq.{strip_prefix_is, strip_suffix_is}
use Rattle.std.specs.Fmt.{decimal}
use Rattle.ilp_log_text.proofs.Origins.{on_none, fields_of, long_enough, front_is, digits_are, same_front}
use Rattle.ilp_log_text.proofs.first_line.origin_in.Goals as goal

pub returns-in_err-front-clause-none : goal.returns-in_err-front-clause-none
returns-in_err-front-clause-none c = on_none c.from_residual-in_err-front.result (λ count digest begins is.
    let fields = c.in_ok-fields.fields.now in
    let found = strip_prefix_is Decides-eqb c.args.line.now (codes "ilp-log 1 ") (Some c.in_ok-fields.fields) c.in_ok-fields.ensures.cases in
    omega (arith, long_enough fields count digest begins (fields_of c.args.line.now fields found count digest is), c.in_err-front.ensures.cases))

pub returns-in_err-strip_suffix-clause-none : goal.returns-in_err-strip_suffix-clause-none
returns-in_err-strip_suffix-clause-none c = on_none c.from_residual-in_err-strip_suffix.result (λ count digest begins is.
    let fields = c.in_ok-fields.fields.now in
    let found = strip_prefix_is Decides-eqb c.args.line.now (codes "ilp-log 1 ") (Some c.in_ok-fields.fields) c.in_ok-fields.ensures.cases in
    let none = strip_suffix_is Decides-eqb c.in_ok-front.front.now (codes " ") None c.in_err-strip_suffix.ensures.cases in
    none (decimal count) (c.in_ok-front.ensures.cases.0 ∙ front_is fields count digest begins (fields_of c.args.line.now fields found count digest is)))

pub returns-in_err-count-clause-none : goal.returns-in_err-count-clause-none
returns-in_err-count-clause-none c = on_none c.from_residual-in_err-count.result (λ count digest begins is.
    let fields = c.in_ok-fields.fields.now in
    let found = strip_prefix_is Decides-eqb c.args.line.now (codes "ilp-log 1 ") (Some c.in_ok-fields.fields) c.in_ok-fields.ensures.cases in
    let number = c.in_ok-strip_suffix.field-0.now in
    let front = strip_suffix_is Decides-eqb c.in_ok-front.front.now (codes " ") (Some c.in_ok-strip_suffix.field-0) c.in_ok-strip_suffix.ensures.cases in
    c.in_err-count.ensures.none count begins.few
    (same_front number (decimal count) (sym front ∙ c.in_ok-front.ensures.cases.0 ∙ front_is fields count digest begins (fields_of c.args.line.now fields found count digest is))))

pub returns-in_err-digest-clause-none : goal.returns-in_err-digest-clause-none
returns-in_err-digest-clause-none c = on_none c.from_residual-in_err-digest.result (λ count digest begins is.
    let fields = c.in_ok-fields.fields.now in
    let found = strip_prefix_is Decides-eqb c.args.line.now (codes "ilp-log 1 ") (Some c.in_ok-fields.fields) c.in_ok-fields.ensures.cases in
    c.in_err-digest.ensures.none digest begins.octets
    (c.in_ok-front.ensures.cases.1 ∙ digits_are fields count digest begins (fields_of c.args.line.now fields found count digest is)))

pub returns-clause-whole : goal.returns-clause-whole
returns-clause-whole c =
    let fields = c.in_ok-fields.fields.now in
    let number = c.in_ok-strip_suffix.field-0.now in
    let digits = c.in_ok-front.digits.now in
    let found = strip_prefix_is Decides-eqb c.args.line.now (codes "ilp-log 1 ") (Some c.in_ok-fields.fields) c.in_ok-fields.ensures.cases in
    let front = strip_suffix_is Decides-eqb c.in_ok-front.front.now (codes " ") (Some c.in_ok-strip_suffix.field-0) c.in_ok-strip_suffix.ensures.cases in
    found ∙ ap (λ (t : List ℕ). codes "ilp-log 1 " ++ t) (
    sym (take-append-drop (length fields - 64) fields)
    ∙ ap (λ (t : List ℕ). t ++ drop (length fields - 64) fields) (sym c.in_ok-front.ensures.cases.0 ∙ front) ∙ ap (λ (t : List ℕ). (number ++ codes " ") ++ t) (sym c.in_ok-front.ensures.cases.1)
    ∙ append_assoc number (codes " ") digits
    ∙ ap (λ (t : List ℕ). t ++ (codes " " ++ digits)) c.in_ok-count.ensures.whole
    ∙ ap (λ (t : List ℕ). decimal c.in_ok-count.count ++ (codes " " ++ t)) c.in_ok-digest.ensures.whole)
