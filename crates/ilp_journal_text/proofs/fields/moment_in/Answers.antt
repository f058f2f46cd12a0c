use Rattle.std.proofs.Common.{◌≡◌, Ok, ap}
use Rattle.ilp_journal_text.proofs.Numbers.{moment_text, moment_read, moment_kept, moment_not_below}
use Rattle.ilp_journal_text.proofs.fields.moment_in.Goals as goal

pub returns-in_err-text_in-clause-read : goal.returns-in_err-text_in-clause-read
returns-in_err-text_in-clause-read c = λ m within is. absurd (c.in_err-text_in.ensures.err (moment_text m c.args.field.now within is))

pub returns-in_default-clause-read : goal.returns-in_default-clause-read
returns-in_default-clause-read c = λ m within is.
    absurd (c.in_default.not-Ok m (moment_read m c.args.field.now _ _ within is c.in_ok-text_in.ensures.ok c.parse.ensures.value.0))

pub returns-then-moment-lt0-clause-read : goal.returns-then-moment-lt0-clause-read
returns-then-moment-lt0-clause-read c = λ m within is.
    let read = moment_read m c.args.field.now _ c.parse.result within is c.in_ok-text_in.ensures.ok c.parse.ensures.value.0 in
    let same : c.in-Ok.moment ≡ m = cc in
    absurd (moment_not_below m c.in-Ok.moment within same c.if-moment-lt0.true)

pub returns-clause-read : goal.returns-clause-read
returns-clause-read c = λ m within is.
    let read = moment_read m c.args.field.now _ c.parse.result within is c.in_ok-text_in.ensures.ok c.parse.ensures.value.0 in
    let same : c.in-Ok.moment ≡ m = cc in
    ap Ok (moment_kept m c.in-Ok.moment within same)
