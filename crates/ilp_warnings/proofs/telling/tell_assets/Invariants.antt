use Rattle.toml.specs.View.{table_view}
use Rattle.ilp_warnings.specs.declared.warning.ConfigTable.TheVariants.{Asset}
use Rattle.ilp_warnings.specs.Told.{AreWarranted}
use Rattle.ilp_warnings.specs.Complete.{KeepsAll, AreTablesTold}
use Rattle.ilp_warnings.proofs.telling.tell_assets.Given as goal

abbrev pub invariant-loop-asset : goal.invariant-loop-asset
invariant-loop-asset l =
    AreWarranted l.examined l.told.items × KeepsAll l.initial.told.items l.told.items
    × AreTablesTold (table_view l.examined.table.now) Asset l.asset l.told.items
