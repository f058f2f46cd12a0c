use Rattle.ilp_warnings.specs.declared.warning.Warning.TheVariants.{SharedHost, OnePacket, TooLargeOut}
use Rattle.ilp_warnings.specs.Complete.{KeepsAll}
use Rattle.ilp_warnings.proofs.Keeping.{on_ok, on_ok_both, tokens_kept, addresses_kept, names_kept}
use Rattle.ilp_warnings.proofs.peers.tell_peer.Goals as goal

pub returns-clause-kept : goal.returns-clause-kept
returns-clause-kept c =
    on_ok c.tell.result
    (λ k w has. k w (c.in_ok-tell_too_large.ensures.kept w (c.in_ok-tell_one_packet.ensures.kept w (c.in_ok-tell_same_host.ensures.kept w (c.in_ok-tell_addresses.ensures.kept w (c.in_ok-tell_tokens.ensures.kept w has))))))
    c.tell.ensures.kept

pub returns-clause-peer : goal.returns-clause-peer
returns-clause-peer c =
    let C = c.args.examined.config.now in
    let peer = c.args.peer in
    on_ok_both c.tell.result
    (λ k told.
    let after_packet : KeepsAll c.tell_one_packet.new.told.items c.tell.new.told.items = λ w has. k w (c.in_ok-tell_too_large.ensures.kept w has) in
    let after_host : KeepsAll c.tell_same_host.new.told.items c.tell.new.told.items = λ w has. after_packet w (c.in_ok-tell_one_packet.ensures.kept w has) in
    let later : KeepsAll c.tell_addresses.new.told.items c.tell.new.told.items = λ w has. after_host w (c.in_ok-tell_same_host.ensures.kept w has) in
    record {
      tokens = tokens_kept _ _ (λ w has. later w (c.in_ok-tell_addresses.ensures.kept w has)) C peer c.in_ok-tell_tokens.ensures.tokens;
      addresses = addresses_kept _ _ later C peer c.in_ok-tell_addresses.ensures.addresses;
      same_host = λ other below h. names_kept _ _ after_host (SharedHost peer) (c.in_ok-tell_same_host.ensures.same_host other below h);
      one_packet = λ sender below differs h. names_kept _ _ after_packet (OnePacket peer) (c.in_ok-tell_one_packet.ensures.one_packet sender below differs h);
      too_large = λ other below differs h. names_kept _ _ (λ w has. k w has) (TooLargeOut peer) (c.in_ok-tell_too_large.ensures.too_large other below differs h);
      unreached = λ h. told (c.is_unreached-unreached.ensures.1 h);
    })
    c.tell.ensures.kept c.tell.ensures.told
