use Rattle.std.proofs.Common.{sym, ap, ◌∙◌}
use Rattle.std.specs.Result.{result_unwrap_or}
use Rattle.ilp_journal_text.proofs.reading.period_in.Goals as goal

pub returns-in-Some : goal.returns-in-Some
returns-in-Some c = λ period after fits whole.
    c.unwrap_or.ensures ∙ ap (λ r. result_unwrap_or r 0) (c.number_in.ensures period fits (c.in-Some.ensures period after fits whole))

pub returns-in-None : goal.returns-in-None
returns-in-None c = λ period after fits whole. sym (c.in-None.ensures period after fits whole)
