use Rattle.ilp_worker_laws.proofs.CreditBehind.{credit_behind}
use Rattle.ilp_worker_laws.proofs.laws.credits_are_told_behind_their_entries.Goals as goal

pub returns : goal.returns
returns c = credit_behind
