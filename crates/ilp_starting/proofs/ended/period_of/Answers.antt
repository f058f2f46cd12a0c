use Rattle.std.proofs.Common.{inr, refl}
use Rattle.ilp_starting.proofs.ended.period_of.Goals as goal

pub returns-in-Err : goal.returns-in-Err
returns-in-Err c = inr (c.in-Err.ensures.err, refl)
