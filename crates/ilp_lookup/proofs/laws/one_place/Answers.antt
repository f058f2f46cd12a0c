use Rattle.ilp_lookup.proofs.OneRoute.{one-answer}
use Rattle.ilp_lookup.proofs.laws.one_place.Goals as goal

pub returns : goal.returns
returns c = one-answer
