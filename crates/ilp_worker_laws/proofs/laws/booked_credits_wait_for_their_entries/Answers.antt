use Rattle.ilp_worker_laws.proofs.CreditBehind.{waits_within}
use Rattle.ilp_worker_laws.proofs.laws.booked_credits_wait_for_their_entries.Goals as goal

pub returns : goal.returns
returns c = waits_within
