use Rattle.std.proofs.Common.{sym, ap, subst}
use Rattle.ilp_tallies.specs.Tallies.{PlainTallies, MovesBase}
use Rattle.ilp_tallies.proofs.Rebasing.{moves_base}
use Rattle.ilp_tallies.proofs.tallies.Tallies.set_base.Goals as goal

pub returns : goal.returns
returns g c =
    subst (MovesBase c.args.self.now c.args.base) (ap (λ (t : PlainTallies). record t { base = c.args.base }) (sym c.self.view_is)) (moves_base c.args.self.now c.args.base)
