use Rattle.std.proofs.Common.{arith}
use Rattle.ilp_journal_text.proofs.Numbers.{number_text, number_read}
use Rattle.ilp_journal_text.proofs.fields.amount_in.Goals as goal

pub returns-in_err-text_in : goal.returns-in_err-text_in
returns-in_err-text_in c = λ n fits is. absurd (c.in_err-text_in.ensures.err (number_text n c.args.field.now (omega (arith, fits)) is))

pub returns-in_default : goal.returns-in_default
returns-in_default c = λ n fits is.
    absurd (c.in_default.not-Ok n (number_read 64 n c.args.field.now _ _ fits (omega (arith, fits)) is c.in_ok-text_in.ensures.ok c.parse.ensures.value.0))

pub returns : goal.returns
returns c = λ n fits is.
    let read = number_read 64 n c.args.field.now _ c.parse.result fits (omega (arith, fits)) is c.in_ok-text_in.ensures.ok c.parse.ensures.value.0 in
    cc
