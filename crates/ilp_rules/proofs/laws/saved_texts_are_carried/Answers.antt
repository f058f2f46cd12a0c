use Rattle.ilp_rules.proofs.Saved.{saved_carried, saved_not_refused}
use Rattle.ilp_rules.proofs.laws.saved_texts_are_carried.Goals as goal

pub returns : goal.returns
returns c = record { carried = saved_carried; refused = saved_not_refused }
