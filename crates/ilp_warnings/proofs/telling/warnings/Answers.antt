use Rattle.std.proofs.Common.{rules}
use Rattle.ilp_warnings.proofs.Keeping.{not_both}
use Rattle.ilp_warnings.proofs.telling.warnings.Goals as goal

-- octets that were refused are no configuration's
pub returns-else-is_memory-clause-complete : goal.returns-else-is_memory-clause-complete
returns-else-is_memory-clause-complete c = λ t toml same. absurd (not_both t _ (c.in-Err.ensures.refused (search rules) toml.0) toml.1)
