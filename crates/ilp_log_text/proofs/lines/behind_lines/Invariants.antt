use Rattle.std.proofs.Common.{◌≡◌, drop}
use Rattle.ilp_line_file.specs.Text.{recovered, IsText}
use Rattle.ilp_log_text.proofs.lines.behind_lines.Given as goal

-- the lines so far were passed
abbrev pub invariant-loop-passed : goal.invariant-loop-passed
invariant-loop-passed l = record { text : IsText l.rest; lines : recovered l.rest ≡ drop l._passed (recovered l.text) }
