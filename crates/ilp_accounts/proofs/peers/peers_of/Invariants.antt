use Rattle.ilp_fields.specs.Checks.{first_beside}
use Rattle.ilp_accounts.specs.Configuration.{peer_of}
use Rattle.ilp_accounts.specs.Faults.{peer_fault}
use Rattle.ilp_accounts.proofs.Turns.{IsRead}
use Rattle.ilp_accounts.proofs.peers.peers_of.Given as goal

abbrev pub invariant-loop-value : goal.invariant-loop-value
invariant-loop-value l =
    let give = peer_of l.assets.assets in
    IsRead (first_beside (peer_fault l.assets.assets) give) give l.values l.value-index l.peers
