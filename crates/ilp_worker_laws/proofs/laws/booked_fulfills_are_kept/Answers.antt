use Rattle.ilp_worker_laws.proofs.Outcomes.{booked_outcome}
use Rattle.ilp_worker_laws.proofs.laws.booked_fulfills_are_kept.Goals as goal

pub returns : goal.returns
returns c = booked_outcome
