use Rattle.ilp_worker_laws.proofs.Behind.{booked_behind}
use Rattle.ilp_worker_laws.proofs.laws.booked_fulfills_are_told_behind_their_entries.Goals as goal

pub returns : goal.returns
returns c = booked_behind
