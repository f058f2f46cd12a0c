use Rattle.ilp_rules.proofs.KeptOnce.{credited_once}
use Rattle.ilp_rules.proofs.Rules.{lawful_balanced}
use Rattle.ilp_rules.proofs.laws.lawful_books.Goals as goal

pub returns : goal.returns
returns c = record {
  credited_once = λ book k m first second lawful. credited_once book lawful k m first second;
  balanced = lawful_balanced;
}
