use Rattle.toml.specs.View.{table_view}
use Rattle.ilp_accounts.proofs.config.Config.read.Goals as goal

-- octets that were read are TOML
pub returns-in-Ok-clause-other : goal.returns-in-Ok-clause-other
returns-in-Ok-clause-other c = λ none. absurd (none (table_view c.in-Ok.table) c.in-Ok.ensures.ok)
