use Rattle.ilp_oer.proofs.Spellings.{Splits-unique}
use Rattle.ilp_oer.proofs.laws.one_spelling.Goals as goal

pub returns : goal.returns
returns c = Splits-unique
