use Rattle.std.proofs.Common.{◌≡◌, ◌<◌, ◌^◌, ◌∙◌, ap, sym, arith, true, ℕ, length, subst, List, Option, IfSome}
use Rattle.std.specs.Result.{result_ok}
use Rattle.std.specs.Char.{is_ascii_digit}
use Rattle.std.specs.List.{list_all}
use Rattle.std.specs.Str.Parse.{ParsesUnsigned}
use Rattle.std.proofs.lemmas.Bool.Decides.{nat_tests}
use Rattle.std.proofs.lemmas.Str.Parse.{parse_gives, digits_value_short}
use Rattle.ilp_order.proofs.DigitLemmas.{own_numerals, IsUtf8-digits}
use Rattle.ilp_offline.proofs.Fields.{number_in-digits}
use Rattle.ilp_offline.proofs.form.number_in.Goals as goal

pub returns-in_default-clause-value : goal.returns-in_default-clause-value
returns-in_default-clause-value c =
    absurd (c.in_default.ensures.cases.0 (IsUtf8-digits c.args.text.now (sym c.is_all_digits.ensures ∙ c.if-not-is_all_digits.false)))

pub returns-clause-value : goal.returns-clause-value
returns-clause-value c =
    let text = c.args.text.now in
    let digits : list_all is_ascii_digit text ≡ true = sym c.is_all_digits.ensures ∙ c.if-not-is_all_digits.false in
    let some : 0 < length text = grind (arith, nat_tests) in
    let short = digits_value_short own_numerals text 15 digits (omega arith) in
    let told = let P : List ℕ → Type 0 = λ t. ParsesUnsigned 64 10 t c.parse.result in subst P c.in-Ok.ensures.cases.0 c.parse.ensures.value.0 in
    let parsed = parse_gives own_numerals 64 text c.parse.result told digits some (omega (arith, short)) in
    c.ok.ensures.value ∙ ap result_ok parsed ∙ sym (number_in-digits c.args.most text some (omega arith) digits)

pub returns-clause-bound : goal.returns-clause-bound
returns-clause-bound c =
    let text = c.args.text.now in
    let digits : list_all is_ascii_digit text ≡ true = sym c.is_all_digits.ensures ∙ c.if-not-is_all_digits.false in
    let some : 0 < length text = grind (arith, nat_tests) in
    let is = returns-clause-value c ∙ number_in-digits c.args.most text some (omega arith) digits in
    let P : Option ℕ → Type 0 = λ o. IfSome o (λ number. number < 10 ^ c.args.most) in
    subst P (sym is) (digits_value_short own_numerals text c.args.most digits (omega arith))
