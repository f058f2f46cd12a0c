use Rattle.ilp_workers.proofs.Halving.{forwarded_by_halves}
use Rattle.ilp_worker_laws.proofs.laws.halves_make_a_forward.Goals as goal

pub returns : goal.returns
returns c = forwarded_by_halves
