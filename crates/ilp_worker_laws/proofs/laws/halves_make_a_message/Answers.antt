use Rattle.ilp_workers.proofs.Halving.{messaged_by_halves}
use Rattle.ilp_worker_laws.proofs.laws.halves_make_a_message.Goals as goal

pub returns : goal.returns
returns c = messaged_by_halves
