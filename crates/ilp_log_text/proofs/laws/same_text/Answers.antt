use Rattle.ilp_log_text.proofs.SameText.{same_text}
use Rattle.ilp_log_text.proofs.laws.same_text.Goals as goal

pub returns : goal.returns
returns c = same_text
