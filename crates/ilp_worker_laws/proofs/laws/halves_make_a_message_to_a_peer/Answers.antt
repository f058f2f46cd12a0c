use Rattle.ilp_worker_laws.proofs.Asking.{answered_by_halves, unanswered_by_halves}
use Rattle.ilp_worker_laws.proofs.laws.halves_make_a_message_to_a_peer.Goals as goal

pub returns-clause-answered : goal.returns-clause-answered
returns-clause-answered c = answered_by_halves

pub returns-clause-unanswered : goal.returns-clause-unanswered
returns-clause-unanswered c = unanswered_by_halves
