use Rattle.std.proofs.Common.{inr, refl}
use Rattle.ilp_settlement.proofs.QuantityLemmas.{value_read, value_not_read}
use Rattle.ilp_settlement.proofs.json.parse.Goals as goal

pub returns-in-Ok-clause-ok : goal.returns-in-Ok-clause-ok
returns-in-Ok-clause-ok c = value_read c.args.octets.now _ c.in-Ok.ensures.ok.0 c.in-Ok.ensures.ok.1

pub returns-else-is_memory-clause-err : goal.returns-else-is_memory-clause-err
returns-else-is_memory-clause-err c =
    inr (refl, value_not_read c.args.octets.now (λ utf8. c.in-Err.ensures.err (λ m. let yes = c.is_memory.ensures.1 m in cc) utf8))
