use Rattle.ilp_workers.proofs.Booking.{finished_by}
use Rattle.ilp_worker_laws.proofs.laws.booked_and_kept_is_finished.Goals as goal

pub returns : goal.returns
returns c = finished_by
