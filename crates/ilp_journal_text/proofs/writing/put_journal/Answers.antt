use Rattle.std.proofs.Common.{ℕ, List, ap, subst, ◌∙◌}
use Rattle.std.specs.Prelude.{OnOk, OnErr}
use Rattle.std.specs.Io.KnownBytes.{Appends}
use Rattle.ilp_io.specs.Writing.{AppendsProperPrefix}
use Rattle.ilp_journal_text.specs.Text.{end_line}
use Rattle.ilp_io.proofs.WrittenLemmas.{stopped, then_all, then_part}
use Rattle.ilp_journal_text.proofs.writing.put_journal.Goals as goal

pub returns-in_err-put_first_line-clause-err : goal.returns-in_err-put_first_line-clause-err
returns-in_err-put_first_line-clause-err g c = stopped _ _ _ _ _ c.in_err-put_first_line.ensures.err

pub returns-in_err-put_entries-clause-err : goal.returns-in_err-put_entries-clause-err
returns-in_err-put_entries-clause-err g c = then_part _ _ _ _ _ _ c.in_ok-put_first_line.ensures.ok (stopped _ _ _ _ _ c.in_err-put_entries.ensures.err)

pub returns-clause-ok : goal.returns-clause-ok
returns-clause-ok g c =
    let end = c.as_slice.ensures ∙ c.last.ensures ∙ ap end_line (c.from.ensures ∙ c.len.ensures.count) in
    let said = λ (text : List ℕ). OnOk c.put_all.result (Appends (g.W.Sink.contents c.put_entries.new.sink) (g.W.Sink.contents c.put_all.new.sink) text) in
    then_all _ _ _ _ _ _ c.in_ok-put_first_line.ensures.ok (then_all _ _ _ _ _ _ c.in_ok-put_entries.ensures.ok (subst said end c.put_all.ensures.ok))

pub returns-clause-err : goal.returns-clause-err
returns-clause-err g c =
    let end = c.as_slice.ensures ∙ c.last.ensures ∙ ap end_line (c.from.ensures ∙ c.len.ensures.count) in
    let said = λ (text : List ℕ). OnErr c.put_all.result (AppendsProperPrefix (g.W.Sink.contents c.put_entries.new.sink) (g.W.Sink.contents c.put_all.new.sink) text) in
    then_part _ _ _ _ _ _ c.in_ok-put_first_line.ensures.ok (then_part _ _ _ _ _ _ c.in_ok-put_entries.ensures.ok (subst said end c.put_all.ensures.err))
