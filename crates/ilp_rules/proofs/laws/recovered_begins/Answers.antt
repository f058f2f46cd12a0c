use Rattle.ilp_rules.proofs.Recovered.{logged_recovered, logged_begins, logged_not_refused}
use Rattle.ilp_rules.proofs.laws.recovered_begins.Goals as goal

pub returns : goal.returns
returns c = record { recovered = logged_recovered; begins = logged_begins; refused = logged_not_refused }
