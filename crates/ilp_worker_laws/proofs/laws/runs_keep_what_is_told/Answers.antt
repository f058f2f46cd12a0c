use Rattle.ilp_worker_laws.proofs.Running.{run_is_kept}
use Rattle.ilp_worker_laws.proofs.laws.runs_keep_what_is_told.Goals as goal

pub returns : goal.returns
returns c = run_is_kept
