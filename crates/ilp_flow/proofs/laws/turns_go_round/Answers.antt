use Rattle.ilp_flow.proofs.Rounds.{turns_go_round}
use Rattle.ilp_flow.proofs.laws.turns_go_round.Goals as goal

pub returns : goal.returns
returns c = turns_go_round
