use Rattle.ilp_alike.proofs.AlikeRuns.{forward_answers_alike}
use Rattle.ilp_alike.proofs.answers_alike.Goals as goal

pub returns : goal.returns
returns c = record { alike = forward_answers_alike }
