use Rattle.std.proofs.Common.{arith}
use Rattle.ilp_journal_text.proofs.line.Line.hexadecimal.Goals as goal

pub returns-clause-bytes : goal.returns-clause-bytes
returns-clause-bytes c = λ i. let octet = c.type_inv.octets i in omega arith
