use Rattle.ilp_rules.proofs.Recovered.{recovered_or_not, recovered_as_one, as_carried, as_recovered}
use Rattle.ilp_rules.proofs.laws.texts_are_recovered_in_one_way.Goals as goal

pub returns : goal.returns
returns c = record {
  refused = recovered_or_not;
  one = recovered_as_one;
  no_log = λ C text now book. (as_carried C text now book, as_recovered C text now book);
}
