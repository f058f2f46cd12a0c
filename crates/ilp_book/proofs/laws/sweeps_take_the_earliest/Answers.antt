use Rattle.ilp_book.proofs.Earliest.{swept_is_earliest, unswept_has_time}
use Rattle.ilp_book.proofs.laws.sweeps_take_the_earliest.Goals as goal

pub returns : goal.returns
returns c = record { taken = swept_is_earliest; left = unswept_has_time }
