use Rattle.std.proofs.Common.{ℕ}
use Rattle.toml.specs.View.{table_view}
use Rattle.ilp_warnings.specs.declared.warning.ConfigTable.TheVariants.{Peer}
use Rattle.ilp_warnings.specs.Complete.{KeepsAll, IsTableTold, IsPeerTold}
use Rattle.ilp_warnings.proofs.KeysTold.{table_kept}
use Rattle.ilp_warnings.proofs.Keeping.{one_more, peer_kept}
use Rattle.ilp_warnings.proofs.telling.tell_peers.Goals as goal

-- each turn keeps what was told, and tells of one more peer
pub loop-peer-preserved : goal.loop-peer-preserved
loop-peer-preserved c =
    let C = c.args.examined.config.now in
    let t = table_view c.args.examined.table.now in
    let targets = c.args.examined.targets.now in
    let turn = c.loop-peer in
    let peer = c.in_ok-tell_peer.ensures in
    let later : KeepsAll turn.told.items c.tell_peer.new.told.items = λ w has. peer.kept w (c.in_ok-tell_table.ensures.kept w has) in (
      peer.sound,
      (λ w has. later w (turn.invariant.1 w has)),
      one_more (λ (n : ℕ). IsPeerTold C targets n turn.told.items) (λ (n : ℕ). IsPeerTold C targets n c.tell_peer.new.told.items) turn.peer (λ n told. peer_kept _ _ later C targets n told) turn.invariant.2 peer.peer,
      one_more (λ (n : ℕ). IsTableTold t (Peer n) turn.told.items) (λ (n : ℕ). IsTableTold t (Peer n) c.tell_peer.new.told.items) turn.peer (λ n told. table_kept t (Peer n) _ _ later told) turn.invariant.3 (table_kept t (Peer turn.peer) _ _ peer.kept c.in_ok-tell_table.ensures.fields),
    )
