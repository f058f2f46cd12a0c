use Rattle.toml.specs.View.{table_view}
use Rattle.ilp_warnings.specs.Told.{AreWarranted, keys_of}
use Rattle.ilp_warnings.specs.Complete.{KeepsAll}
use Rattle.ilp_warnings.proofs.Keys.{HasKeys}
use Rattle.ilp_warnings.proofs.KeysTold.{AreLeft}
use Rattle.ilp_warnings.proofs.fields.tell_fields.Given as goal

abbrev pub invariant-loop-key : goal.invariant-loop-key
invariant-loop-key l =
    HasKeys (keys_of (table_view l.table)) l.key-iterator × AreWarranted l.examined l.told.items × KeepsAll l.initial.told.items l.told.items
    × AreLeft l.within (keys_of (table_view l.table)) l.key-iterator l.told.items
