use Rattle.std.proofs.Common.{rules}
use Rattle.ilp_settler.proofs.settling.SettlerParts.give_out.Goals as goal

-- its entry is kept
pub returns : goal.returns
returns g c = record {
  kept = record { tells = c.in-Ok.ensures.told; begins = c.in-Ok.ensures.seen };
  asks = search rules;
  tried = search rules;
  waits = search rules;
  others = search rules;
}
