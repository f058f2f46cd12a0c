use Rattle.ilp_log_text.proofs.Cutting.{range_cut, no_cut}
use Rattle.ilp_log_text.proofs.Origins.{on_none}
use Rattle.ilp_log_text.proofs.lines.next_line.Goals as goal

pub returns-in_err-end-clause-none : goal.returns-in_err-end-clause-none
returns-in_err-end-clause-none c = on_none c.from_residual.result (no_cut c.args.text.now c.requires c.in_err-end.ensures)

pub returns-clause-line : goal.returns-clause-line
returns-clause-line c = range_cut c.args.text.now c.requires c.in_ok-end.end c.in_ok-end.ensures
