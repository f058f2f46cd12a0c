use Rattle.std.proofs.Common.{sym}
use Rattle.ilp_rules.proofs.carrying.heads.marked_period.Goals as goal

pub returns-in-Some : goal.returns-in-Some
returns-in-Some c = λ period after fits whole. c.number_in.ensures period fits (c.in-Some.ensures period after fits whole)

pub returns-in-None : goal.returns-in-None
returns-in-None c = λ period after fits whole. sym (c.in-None.ensures period after fits whole)
