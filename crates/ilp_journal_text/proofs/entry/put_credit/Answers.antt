use Rattle.std.proofs.Common.{subst, rules}
use Rattle.hex.specs.Hex.{IsBytes}
use Rattle.ilp_journal_text.proofs.entry.put_credit.Goals as goal

-- the numbers are of their types
pub returns-clause-typed : goal.returns-clause-typed
returns-clause-typed c = record {
  key = (search rules, subst IsBytes c.as_slice.ensures.octets c.hexadecimal.ensures.bytes);
  named = search rules;
  scale = search rules;
  credited = search rules;
  kind = c.put_kind.ensures.typed;
}
