use Rattle.toml.specs.View.{table_view}
use Rattle.ilp_warnings.specs.declared.warning.ConfigTable.TheVariants.{Price}
use Rattle.ilp_warnings.specs.Told.{AreWarranted}
use Rattle.ilp_warnings.specs.Complete.{KeepsAll, AreTablesTold}
use Rattle.ilp_warnings.proofs.telling.tell_prices.Given as goal

abbrev pub invariant-loop-price : goal.invariant-loop-price
invariant-loop-price l =
    AreWarranted l.examined l.told.items × KeepsAll l.initial.told.items l.told.items
    × AreTablesTold (table_view l.examined.table.now) Price l.price l.told.items
