use Rattle.ilp_desk.proofs.Gathered.{only_disagrees, never_whole}
use Rattle.ilp_desk.proofs.laws.whole_ends_are_gathered.Goals as goal

pub returns : goal.returns
returns c = record { once = only_disagrees; whole = never_whole }
