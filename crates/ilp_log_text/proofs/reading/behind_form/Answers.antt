use Rattle.ilp_log_text.proofs.Later.{cut_form, lacks_form}
use Rattle.ilp_log_text.proofs.reading.behind_form.Goals as goal

pub returns-in-Some-clause-some : goal.returns-in-Some-clause-some
returns-in-Some-clause-some c =
    let journal = c.in-Ok.field-0 in
    cut_form c.args.text.now journal.rest c.in-Some.field-0-0.now c.in-Some.entries.now journal.period c.in-Ok.ensures.ok.numbered c.in-Ok.ensures.ok.whole c.in-Some.ensures.line

pub returns-in-Err-clause-none : goal.returns-in-Err-clause-none
returns-in-Err-clause-none c = lacks_form c.args.text.now c.requires c.in-Err.ensures.err
