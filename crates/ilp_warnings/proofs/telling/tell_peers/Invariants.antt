use Rattle.toml.specs.View.{table_view}
use Rattle.ilp_warnings.specs.declared.warning.ConfigTable.TheVariants.{Peer}
use Rattle.ilp_warnings.specs.Told.{AreWarranted}
use Rattle.ilp_warnings.specs.Complete.{KeepsAll, AreTablesTold, ArePeersTold}
use Rattle.ilp_warnings.proofs.telling.tell_peers.Given as goal

abbrev pub invariant-loop-peer : goal.invariant-loop-peer
invariant-loop-peer l =
    AreWarranted l.examined l.told.items × KeepsAll l.initial.told.items l.told.items
    × ArePeersTold l.examined.config.now l.examined.targets.now l.peer l.told.items
    × AreTablesTold (table_view l.examined.table.now) Peer l.peer l.told.items
