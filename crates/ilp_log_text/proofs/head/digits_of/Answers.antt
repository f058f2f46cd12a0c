use Rattle.std.proofs.Common.{arith}
use Rattle.ilp_log_text.proofs.head.digits_of.Goals as goal

pub returns-clause-octets : goal.returns-clause-octets
returns-clause-octets c = λ i. let octet = c.type_inv.digest i in omega arith
