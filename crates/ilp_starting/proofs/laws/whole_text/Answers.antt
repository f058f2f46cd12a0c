use Rattle.ilp_starting.proofs.Whole.{whole_text}
use Rattle.ilp_starting.proofs.laws.whole_text.Goals as goal

pub returns : goal.returns
returns c = whole_text
