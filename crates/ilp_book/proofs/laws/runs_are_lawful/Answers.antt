use Rattle.ilp_book.proofs.Runs.{runs_lawful, runs_balanced, steps_lawful}
use Rattle.ilp_book.proofs.laws.runs_are_lawful.Goals as goal

pub returns : goal.returns
returns c = record { lawful = runs_lawful; balanced = runs_balanced; onward = steps_lawful }
