use Rattle.ilp_grown_list.proofs.Moves.{begins}
use Rattle.ilp_grown_list.proofs.list.NewList.new.Goals as goal

pub of_words-requires : goal.of_words-requires
of_words-requires g c = begins
