use Rattle.ilp_backup.proofs.Standing.{lay_there}
use Rattle.ilp_backup.proofs.laws.what_stands_still_lay_there.Goals as goal

-- src/laws.rt
pub returns : goal.returns
returns c = lay_there
