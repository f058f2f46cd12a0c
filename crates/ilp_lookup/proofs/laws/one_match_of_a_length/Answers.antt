use Rattle.ilp_lookup.proofs.OneRoute.{one-match}
use Rattle.ilp_lookup.proofs.laws.one_match_of_a_length.Goals as goal

pub returns : goal.returns
returns c = one-match
