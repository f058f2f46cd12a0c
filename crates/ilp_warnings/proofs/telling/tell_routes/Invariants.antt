use Rattle.toml.specs.View.{table_view}
use Rattle.ilp_warnings.specs.declared.warning.ConfigTable.TheVariants.{Route}
use Rattle.ilp_warnings.specs.Told.{AreWarranted}
use Rattle.ilp_warnings.specs.Complete.{KeepsAll, AreTablesTold, AreRoutesTold}
use Rattle.ilp_warnings.proofs.telling.tell_routes.Given as goal

abbrev pub invariant-loop-route : goal.invariant-loop-route
invariant-loop-route l =
    AreWarranted l.examined l.told.items × KeepsAll l.initial.told.items l.told.items
    × AreRoutesTold l.examined.config.now l.examined.targets.now l.route l.told.items
    × AreTablesTold (table_view l.examined.table.now) Route l.route l.told.items
