use Rattle.ilp_server.proofs.LawLemmas.{one_target, one_sender}
use Rattle.ilp_server.proofs.laws.requests_ask_for_one_thing.Goals as goal

pub returns : goal.returns
returns c = record { targets = one_target; senders = one_sender }
