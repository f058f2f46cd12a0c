-- Under which keys settlements are asked for.
use Rattle.std.specs.Prelude.{ℕ, List, unwrap_or}
use Rattle.ilp_accounts.specs.Configuration.{Configuration}
use Rattle.ilp_journal.specs.Journal.{Entries}
use Rattle.ilp_journal.specs.BroughtForward.{earlier_key_at}
use Rattle.ilp_rules.specs.Heads.{settlement_key_of}

-- the key of the settlement that the entry n opens: the one that it had in an earlier period, or that of its number
abbrev pub settlement_key_at : Configuration → ℕ → Entries → ℕ → List ℕ
settlement_key_at C period j n = unwrap_or (earlier_key_at j n) (settlement_key_of C period n)
