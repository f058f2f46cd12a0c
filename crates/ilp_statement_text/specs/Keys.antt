-- The octets of a settlement's key.
use Rattle.std.specs.Prelude.{ℕ, List, ◌++◌}
use Rattle.std.specs.Fmt.{decimal}
use Rattle.ilp_rules.specs.Heads.{period_mark}
use Rattle.ilp_statement_text.specs.declared.key.SettlementKey.{SettlementKey}
use Rattle.ilp_statement_text.specs.declared.key.SettlementKey.TheVariants as key

-- those of a key that was given, and RUN-N, in a period above 0 RUN.P-N, of one of this period
abbrev pub octets_of : SettlementKey → List ℕ
octets_of (key.Given octets) = octets.now
octets_of (key.Own run period number) = (run.now ++ period_mark period) ++ decimal number
