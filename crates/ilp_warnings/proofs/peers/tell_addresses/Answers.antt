use Rattle.std.proofs.Common.{subst}
use Rattle.ilp_warnings.specs.Meaning.{IsSocketAddress}
use Rattle.ilp_warnings.proofs.Keeping.{on_ok, on_ok_both}
use Rattle.ilp_warnings.proofs.peers.tell_addresses.Goals as goal

pub returns-clause-kept : goal.returns-clause-kept
returns-clause-kept c = on_ok c.tell_engine.result (λ k w has. k w (c.in_ok-tell_address.ensures.kept w has)) c.tell_engine.ensures.kept

pub returns-clause-addresses : goal.returns-clause-addresses
returns-clause-addresses c =
    on_ok_both c.tell_engine.result
    (λ k told. record {
      host = λ h. k _ (c.in_ok-tell_address.ensures.told (λ is. h (subst IsSocketAddress c.host-host.ensures is)));
      engine = told;
    })
    c.tell_engine.ensures.kept c.tell_engine.ensures.engine
