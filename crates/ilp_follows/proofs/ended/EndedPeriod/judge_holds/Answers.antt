use Rattle.std.proofs.Common.{◌≡◌, ◌≤◌, length, arith}
use Rattle.ilp_follows.proofs.Standing.{none_open}
use Rattle.ilp_follows.proofs.ended.EndedPeriod.judge_holds.Goals as goal

-- all entries were looked at
pub returns-clause-closed : goal.returns-clause-closed
returns-clause-closed c =
    none_open c.args.self.now.entries c.loop-number.number (omega (arith, c.loop-number-test.false, c.len-number-end.ensures)) c.loop-number.invariant
