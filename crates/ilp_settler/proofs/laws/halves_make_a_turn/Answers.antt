use Rattle.ilp_settler.proofs.Halving.{known_turn_by_halves}
use Rattle.ilp_settler.proofs.laws.halves_make_a_turn.Goals as goal

pub returns : goal.returns
returns c = known_turn_by_halves _
