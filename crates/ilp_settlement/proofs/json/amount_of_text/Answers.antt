use Rattle.std.proofs.Common.{◌∙◌, ap, sym, arith, Bool, Some, None, cond}
use Rattle.std.specs.Result.{result_ok}
use Rattle.std.specs.Str.Parse.{digits_value}
use Rattle.std.proofs.lemmas.Str.Parse.{parse_gives, digits_value_short}
use Rattle.ilp_order.proofs.DigitLemmas.{own_numerals}
use Rattle.ilp_settlement.proofs.QuantityLemmas.{amount_text_parts}
use Rattle.ilp_settlement.proofs.json.amount_of_text.Goals as goal

pub returns-clause-value : goal.returns-clause-value
returns-clause-value c =
    let text = c.args.text.now in
    let passes = sym c.is_amount_text.ensures ∙ c.if-not-is_amount_text.false in
    let parts = amount_text_parts text passes in
    let short = digits_value_short own_numerals text 38 parts.2 parts.1 in
    let parsed = parse_gives own_numerals 128 text c.parse.result c.parse.ensures.value.0 parts.2 (omega (arith, parts.0)) (omega (arith, short)) in
    c.ok.ensures.value ∙ ap result_ok parsed ∙ sym (ap (λ (b : Bool). cond b (Some (digits_value 10 text)) None) passes)

pub returns-clause-bound : goal.returns-clause-bound
returns-clause-bound c =
    let text = c.args.text.now in
    let parts = amount_text_parts text (sym c.is_amount_text.ensures ∙ c.if-not-is_amount_text.false) in
    let short = digits_value_short own_numerals text 38 parts.2 parts.1 in
    let parsed = parse_gives own_numerals 128 text c.parse.result c.parse.ensures.value.0 parts.2 (omega (arith, parts.0)) (omega (arith, short)) in
    rw (c.ok.ensures.value ∙ ap result_ok parsed) short
