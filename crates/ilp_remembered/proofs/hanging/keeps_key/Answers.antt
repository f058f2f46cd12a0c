use Rattle.std.proofs.Common.{arith}
use Rattle.ilp_remembered.proofs.KeptKeys.{not_kept}
use Rattle.ilp_remembered.proofs.hanging.keeps_key.Goals as goal

-- All entries were looked at.
pub returns : goal.returns
returns c = not_kept c.args.book.now.entries c.args.peer c.loop-number.number (omega (arith, c.len-number-end.ensures, c.loop-number-test.false)) c.loop-number.invariant
