use Rattle.std.proofs.Common.{[], subst}
use Rattle.ilp_line_file.specs.Text.{AreLines}
use Rattle.ilp_line_file.proofs.Whole.{are_lines}
use Rattle.ilp_log_text.specs.Text.{PlainLogText}
use Rattle.ilp_log_text.proofs.reading.LogText.lines.Goals as goal

pub returns-clause-lines : goal.returns-clause-lines
returns-clause-lines c = subst (λ (log : PlainLogText). AreLines log.lines) c.self.view_is (are_lines [] c.self.inside.lines.now tt)
