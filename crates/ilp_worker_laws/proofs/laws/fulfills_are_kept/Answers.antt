use Rattle.ilp_worker_laws.proofs.Outcomes.{forwarded_outcome}
use Rattle.ilp_worker_laws.proofs.laws.fulfills_are_kept.Goals as goal

pub returns : goal.returns
returns c = forwarded_outcome
