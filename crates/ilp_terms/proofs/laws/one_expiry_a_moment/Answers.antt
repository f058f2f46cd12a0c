use Rattle.ilp_terms.proofs.ExpiryLemmas.{same_expiry}
use Rattle.ilp_terms.proofs.laws.one_expiry_a_moment.Goals as goal

pub returns : goal.returns
returns c = same_expiry
