use Rattle.ilp_warnings.proofs.Levels.{lies_below}
use Rattle.ilp_warnings.proofs.peers.reaches.Goals as goal

pub returns : goal.returns
returns c = lies_below c.args.levels.threshold c.args.levels.settle_to c.args.amount c.is_reached.result c.is_reached.ensures
