use Rattle.ilp_rules.proofs.CarriedBooks.{carried_or_not, carried_as_one}
use Rattle.ilp_rules.proofs.laws.texts_are_carried_in_one_way.Goals as goal

pub returns : goal.returns
returns c = record { refused = carried_or_not; one = carried_as_one }
