use Rattle.std.proofs.Common.{ap, sym, subst, ◌∙◌, arith}
use Rattle.std.specs.Result.{result_unwrap_or}
use Rattle.std.specs.Str.{IsAscii}
use Rattle.std.proofs.lemmas.Fmt.{IsAscii-decimal_wide, parse-decimal_wide}
use Rattle.std.proofs.lemmas.Str.{IsUtf8-from_ascii}
use Rattle.ilp_rules.proofs.carrying.heads.number_in.Goals as goal

pub returns-in-Ok : goal.returns-in-Ok
returns-in-Ok c = λ n fits is.
    c.unwrap_or.ensures
    ∙ ap (λ r. result_unwrap_or r 0) (parse-decimal_wide 32 n c.in-Ok.text.now c.parse.result fits (omega (arith, fits)) (c.in-Ok.ensures.cases.0 ∙ is) c.parse.ensures.value.0)

-- digits are text
pub returns-in-Err : goal.returns-in-Err
returns-in-Err c = λ n fits is.
    absurd (c.in-Err.ensures.cases.0 (IsUtf8-from_ascii c.args.text.now (subst IsAscii (sym is) (IsAscii-decimal_wide n (omega (arith, fits))))))
