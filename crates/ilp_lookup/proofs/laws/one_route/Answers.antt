use Rattle.ilp_lookup.proofs.OneRoute.{one-route}
use Rattle.ilp_lookup.proofs.laws.one_route.Goals as goal

pub returns : goal.returns
returns c = one-route
