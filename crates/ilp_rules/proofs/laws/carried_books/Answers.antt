use Rattle.ilp_rules.proofs.CarriedBooks.{carried_lawful, carried_closed, carried_base}
use Rattle.ilp_rules.proofs.laws.carried_books.Goals as goal

pub returns : goal.returns
returns c = record { lawful = carried_lawful; closed = carried_closed; opened = carried_base }
