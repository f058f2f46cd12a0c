use Rattle.std.proofs.Common.{◌≡◌, ◌++◌, Err, refl, append_assoc, ◌∙◌, rules}
use Rattle.std.proofs.KnownBytes.{Appends-trans}
use Rattle.ilp_io.proofs.CountLemmas.{CountsUp-after}
use Rattle.ilp_offline.specs.Replay.{text_from, line_text, after_line}
use Rattle.ilp_offline.specs.Script.{lines_of}
use Rattle.ilp_offline.proofs.Written.{prefix_after, text_from-step}
use Rattle.ilp_offline.proofs.runner.print_lines.Goals as goal

pub returns-in_err-print_line-clause-part : goal.returns-in_err-print_line-clause-part
returns-in_err-print_line-clause-part g c =
    let before = c.loop-rest.book in
    let line = c.split_line.result.0.now in
    let more = c.split_line.result.1.now in
    let step = text_from-step before (after_line before line) c.loop-rest.rest.now line more c.loop-rest.invariant.written (text_from c.args.book.now (lines_of c.args.text.now)) c.split_line.ensures.lines refl c.loop-rest.invariant.whole in
    let passed : c.from_residual.result ≡ Err c.in_err-print_line.field-0.0 = search rules in
    rw passed (prefix_after _ _ _ c.loop-rest.invariant.written (line_text before line) _ _ c.loop-rest.invariant.wrote c.in_err-print_line.ensures.part step)

pub loop-rest-preserved : goal.loop-rest-preserved
loop-rest-preserved g c =
    let before = c.loop-rest.book in
    let after = c.print_line.new.book in
    let line = c.split_line.result.0.now in
    let more = c.split_line.result.1.now in
    record {
      written = c.loop-rest.invariant.written ++ line_text before line;
      wrote = Appends-trans _ _ _ _ _ c.loop-rest.invariant.wrote c.in_ok-print_line.ensures.whole;
      whole = append_assoc c.loop-rest.invariant.written (line_text before line) (text_from after (lines_of more))
          ∙ text_from-step before after c.loop-rest.rest.now line more c.loop-rest.invariant.written (text_from c.args.book.now (lines_of c.args.text.now)) c.split_line.ensures.lines c.in_ok-print_line.ensures.booked c.loop-rest.invariant.whole;
      writes = CountsUp-after _ _ _ 0 c.loop-rest.invariant.writes c.in_ok-print_line.ensures.writes;
    }
