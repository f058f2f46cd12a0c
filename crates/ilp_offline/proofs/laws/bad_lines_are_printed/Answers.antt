use Rattle.ilp_offline.proofs.BadLines.{lines_told}
use Rattle.ilp_offline.proofs.laws.bad_lines_are_printed.Goals as goal

pub returns : goal.returns
returns c = lines_told
