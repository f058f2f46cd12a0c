use Rattle.std.proofs.Common.{◌≡◌, Err, rules}
use Rattle.ilp_follows.proofs.ended.EndedPeriod.judge_peers.Goals as goal

pub returns-in_err-judge_peer-clause-err : goal.returns-in_err-judge_peer-clause-err
returns-in_err-judge_peer-clause-err c =
    let passed : c.from_residual.result ≡ Err c.in_err-judge_peer.field-0.0 = search rules in
    rw passed c.in_err-judge_peer.ensures.err
