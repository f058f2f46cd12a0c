use Rattle.ilp_journal.proofs.HeadRules.{head_keeps}
use Rattle.ilp_journal.proofs.periods.heads_keep_rules.Goals as goal

pub returns : goal.returns
returns c = λ count most end j few apart within. head_keeps count most end j few apart within
