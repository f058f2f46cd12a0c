use Rattle.ilp_journal.proofs.HeadBooks.{head_settles, balances_brought_forward_sum}
use Rattle.ilp_journal.proofs.periods.heads_balance.Goals as goal

pub returns : goal.returns
returns c = record { settled = head_settles; balances = balances_brought_forward_sum }
