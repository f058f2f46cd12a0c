use Rattle.std.proofs.Common.{◌≡◌, Some, below_more, sym, ap, subst, ◌∙◌}
use Rattle.std.specs.Prelude.{slice_get}
use Rattle.std.specs.Option.{option_copied}
use Rattle.std.proofs.lemmas.Option.{get_or_from_slice_get}
use Rattle.ilp_journal_text.specs.Reading.{IsTyped}
use Rattle.test_crash.proofs.whole.look_through.Goals as goal

pub loop-number-preserved : goal.loop-number-preserved
loop-number-preserved c d =
    let all = c.args.book.now.entries in
    let n = c.loop-number.number in
    let entry = c.in-Some.entry.now in
    let stands : slice_get all n ≡ Some entry = sym c.entry.ensures.value ∙ ap option_copied c.in-Some.is in
    below_more _ _ (c.loop-number.invariant d) (subst IsTyped (sym (get_or_from_slice_get all n entry d stands)) c.entry_line.ensures.typed)
