use Rattle.std.proofs.Common.{◌≡◌, map, drop}
use Rattle.std.specs.List.{list_all}
use Rattle.toml.specs.View.{view}
use Rattle.ilp_fields.specs.Fields.{is_table}
use Rattle.ilp_fields.proofs.fields.are_all_tables.Given as goal

abbrev pub invariant-loop-value : goal.invariant-loop-value
invariant-loop-value l = list_all is_table (map view (drop l.value-index l.values)) ≡ list_all is_table (map view l.values)
