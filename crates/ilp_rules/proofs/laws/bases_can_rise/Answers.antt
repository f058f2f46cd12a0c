use Rattle.ilp_rules.proofs.LawfulGrowth.{lawful_raised}
use Rattle.ilp_rules.proofs.laws.bases_can_rise.Goals as goal

pub returns : goal.returns
returns c = lawful_raised
