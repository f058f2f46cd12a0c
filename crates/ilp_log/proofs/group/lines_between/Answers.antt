use Rattle.std.proofs.Common.{◌≡◌, ◌++◌, ℕ, List, Some, sym, ◌∙◌, ap, arith}
use Rattle.std.specs.Prelude.{slice_get}
use Rattle.std.specs.Option.{option_copied}
use Rattle.ilp_accounts.specs.Configuration.{Configuration}
use Rattle.ilp_journal_text.specs.Text.{entry_line}
use Rattle.ilp_log.proofs.Grouping.{no_lines, one_more_line}
use Rattle.ilp_log.proofs.group.lines_between.Goals as goal

pub loop-number-init : goal.loop-number-init
loop-number-init c = (omega arith, no_lines c.args.book.now.config c.args.book.now.entries c.args.from c.new-text.result.items c.new-text.ensures.items)

pub loop-number-preserved : goal.loop-number-preserved
loop-number-preserved c =
    let all = c.args.book.now.entries in
    let n = c.loop-number.number in
    let entry = c.in-Some.entry.now in
    let line = c.entry_line.ensures in
    let stands : slice_get all n ≡ Some entry = sym c.entry.ensures.value ∙ ap option_copied c.in-Some.is in
    let spelled : c.entry_line.result ≡ entry_line c.args.book.now.config entry = line.octets ∙ ap (λ (C : Configuration). entry_line C entry) c.config.ensures.value in
    let longer : c.extend_from_slice.new.self.items ≡ c.loop-number.text.items ++ c.entry_line.result = c.in_ok-extend_from_slice.ensures.items ∙ ap (λ (t : List ℕ). c.loop-number.text.items ++ t) c.as_slice.ensures in (
      omega (arith, c.loop-number.invariant.0),
      one_more_line c.args.book.now.config all c.args.from n entry c.entry_line.result c.loop-number.text.items c.extend_from_slice.new.self.items c.loop-number.invariant.0 stands spelled line.line line.no_nul
          c.loop-number.invariant.1 longer,
    )
