use Rattle.ilp_log_text.proofs.OneLog.{one_log, not_bad}
use Rattle.ilp_log_text.proofs.laws.one_log_text.Goals as goal

pub returns : goal.returns
returns c = record { one = one_log; not_bad = not_bad }
