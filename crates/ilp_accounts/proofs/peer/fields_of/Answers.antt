use Rattle.std.proofs.Common.{refl, rules}
use Rattle.ilp_accounts.specs.Faults.{fields_fault}
use Rattle.ilp_accounts.specs.Configuration.{fields_of}
use Rattle.ilp_accounts.proofs.peer.fields_of.Goals as goal

-- no field has a fault, and each has its value
pub returns : goal.returns
unfolding fields_fault fields_of
returns c =
    rw (c.in_ok-name.ensures.0, c.in_ok-asset.ensures.0, c.in_ok-token.ensures.0, c.in_ok-out_token.ensures.0, c.in_ok-host.ensures.0, c.in_ok-out_path.ensures.0, c.in_ok-least.ensures.0, c.in_ok-fee_ppm.ensures.0, c.in_ok-max_packet.ensures.0, c.in_ok-engine.ensures.0, c.in_ok-threshold.ensures.0, c.in_ok-settle_to.ensures.0, c.in_ok-settle_max.ensures.0, c.in_ok-settle_after_ms.ensures.0)
    (refl, search rules)
