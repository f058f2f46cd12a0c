use Rattle.ilp_desk.proofs.Heads.{same_key}
use Rattle.ilp_desk.proofs.laws.settlements_keep_their_keys.Goals as goal

pub returns : goal.returns
returns c = same_key
