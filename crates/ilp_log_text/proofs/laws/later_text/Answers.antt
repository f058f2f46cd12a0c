use Rattle.ilp_log_text.proofs.Entries.{later_has}
use Rattle.ilp_log_text.proofs.laws.later_text.Goals as goal

pub returns : goal.returns
returns c = λ C period j logged log valid. later_has C valid period j logged log
