use Rattle.ilp_lookup.proofs.RoutedPeer.{IsRoute-routed_peer}
use Rattle.ilp_lookup.proofs.laws.routed_peer_has_a_route.Goals as goal

pub returns : goal.returns
returns c = IsRoute-routed_peer
