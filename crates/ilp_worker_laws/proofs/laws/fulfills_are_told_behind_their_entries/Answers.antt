use Rattle.ilp_worker_laws.proofs.Behind.{told_behind}
use Rattle.ilp_worker_laws.proofs.laws.fulfills_are_told_behind_their_entries.Goals as goal

pub returns : goal.returns
returns c = told_behind
