use Rattle.ilp_worker_laws.proofs.Outcomes.{finished_outcome}
use Rattle.ilp_worker_laws.proofs.laws.finished_fulfills_are_kept.Goals as goal

pub returns : goal.returns
returns c = finished_outcome
