use Rattle.std.proofs.Common.{arith}
use Rattle.ilp_log.proofs.Begins.{prefix_length}
use Rattle.test_crash.proofs.two_actors.begin.Goals as goal

pub begin-requires-clause-base : goal.begin-requires-clause-base
begin-requires-clause-base g c =
    let longer = prefix_length _ _ c.len.ensures.begins in
    (c.requires.base.0, omega (arith, longer, c.requires.base.1))
