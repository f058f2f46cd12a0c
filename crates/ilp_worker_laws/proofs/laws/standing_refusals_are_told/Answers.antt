use Rattle.ilp_worker_laws.proofs.Standing.{refused_as}
use Rattle.ilp_worker_laws.proofs.laws.standing_refusals_are_told.Goals as goal

pub returns : goal.returns
returns c = refused_as
