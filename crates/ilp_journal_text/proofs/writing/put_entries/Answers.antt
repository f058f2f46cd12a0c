use Rattle.std.proofs.Common.{◌≡◌, Some, below_more, sym, ap, subst, ◌∙◌}
use Rattle.std.specs.Prelude.{slice_get}
use Rattle.std.specs.Option.{option_copied}
use Rattle.std.proofs.lemmas.Option.{get_or_from_slice_get}
use Rattle.ilp_io.proofs.CountLemmas.{CountsUp-after}
use Rattle.ilp_journal_text.specs.Reading.{IsTyped}
use Rattle.ilp_journal_text.specs.Text.{entry_line}
use Rattle.ilp_io.proofs.WrittenLemmas.{at_err, wrote_next, stopped_at}
use Rattle.ilp_journal_text.proofs.writing.put_entries.Goals as goal

pub returns-in_err-put_entry-clause-err : goal.returns-in_err-put_entry-clause-err
returns-in_err-put_entry-clause-err g c =
    let all = c.args.journal.now.entries in
    let n = c.loop-number.number in
    let entry = c.in-Some.entry.now in
    let stands : slice_get all n ≡ Some entry = sym c.get.ensures ∙ ap option_copied c.in-Some.is in
    at_err _ _ (stopped_at (entry_line c.args.config.now) all n entry _ _ _ stands c.loop-number.invariant.wrote c.in_err-put_entry.ensures.err)

pub loop-number-preserved : goal.loop-number-preserved
loop-number-preserved g c =
    let all = c.args.journal.now.entries in
    let n = c.loop-number.number in
    let entry = c.in-Some.entry.now in
    let stands : slice_get all n ≡ Some entry = sym c.get.ensures ∙ ap option_copied c.in-Some.is in
    record {
      wrote = wrote_next (entry_line c.args.config.now) all n entry _ _ _ stands c.loop-number.invariant.wrote c.in_ok-put_entry.ensures.ok;
      failed = CountsUp-after _ _ _ 0 c.loop-number.invariant.failed c.in_ok-put_entry.ensures.failed;
      typed = λ d. below_more _ _ (c.loop-number.invariant.typed d) (subst IsTyped (sym (get_or_from_slice_get all n entry d stands)) c.put_entry.ensures.typed);
    }
