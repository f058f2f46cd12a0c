use Rattle.ilp_report.proofs.LineLemmas.{length-line}
use Rattle.ilp_report.proofs.laws.lines_have_one_length.Goals as goal

pub returns : goal.returns
returns c = length-line
