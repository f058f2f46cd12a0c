use Rattle.std.proofs.Common.{◌≡◌, map, take}
use Rattle.ilp_accounts.specs.Views.{plain_peer}
use Rattle.ilp_accounts.proofs.peer.copies_of_peers.Given as goal

abbrev pub invariant-loop-peer : goal.invariant-loop-peer
invariant-loop-peer l = map plain_peer l.copies.items ≡ map plain_peer (take l.peer-index l.peers)
