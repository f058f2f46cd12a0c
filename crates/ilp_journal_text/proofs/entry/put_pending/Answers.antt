use Rattle.std.proofs.Common.{subst, rules}
use Rattle.hex.specs.Hex.{IsBytes}
use Rattle.ilp_journal_text.proofs.entry.put_pending.Goals as goal

-- the numbers are of their types
pub returns-clause-typed : goal.returns-clause-typed
returns-clause-typed c = (search rules, (search rules, subst IsBytes c.as_slice.ensures.octets c.hexadecimal.ensures.bytes))
