use Rattle.toml.proofs.Views.{table_get}
use Rattle.ilp_warnings.proofs.values.value_at.Goals as goal

pub returns : goal.returns
returns c = rw (← c.key.ensures) (table_get c.get.result c.key.result.now c.args.table.now.entries c.get.ensures.value)
