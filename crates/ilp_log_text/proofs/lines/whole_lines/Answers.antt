use Rattle.ilp_log_text.proofs.Cutting.{whole_text}
use Rattle.ilp_log_text.proofs.lines.whole_lines.Goals as goal

pub returns-clause-text : goal.returns-clause-text
returns-clause-text c = (whole_text c.args.octets.now _ c.end_of.ensures.text).0

pub returns-clause-lines : goal.returns-clause-lines
returns-clause-lines c = (whole_text c.args.octets.now _ c.end_of.ensures.text).1
