use Rattle.std.proofs.Common.{◌≡◌, [], ◌∙◌, ap, rules}
use Rattle.ilp_line_file.specs.Text.{recovered, text_of}
use Rattle.ilp_line_file.proofs.Whole.{text_lines}
use Rattle.ilp_log_text.specs.Head.{head_lines}
use Rattle.test_crash.proofs.tests.begun_log.Goals as goal

pub returns-clause-head : goal.returns-clause-head
returns-clause-head c =
    let octets : c.in_ok-octets.octets.items ≡ c.into_bytes-head.result.items = search rules in
    let text : c.into_bytes-head.result.items ≡ text_of (head_lines c.args.config.now 0 []) = search rules in
    c.in_ok-text.ensures.same tt ∙ ap recovered (c.new-device.ensures.seen ∙ octets ∙ text) ∙ text_lines (head_lines c.args.config.now 0 []) c.head_text.ensures.lines
