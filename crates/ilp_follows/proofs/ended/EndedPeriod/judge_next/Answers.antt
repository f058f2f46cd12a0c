use Rattle.std.proofs.Common.{◌≡◌, Err, rules}
use Rattle.ilp_follows.proofs.ended.EndedPeriod.judge_next.Goals as goal

pub returns-in_err-judge_turn-clause-err : goal.returns-in_err-judge_turn-clause-err
returns-in_err-judge_turn-clause-err c =
    let passed : c.from_residual.result ≡ Err c.in_err-judge_turn.field-0.0 = search rules in
    rw passed c.in_err-judge_turn.ensures.err

pub returns-in_err-judge_holds-clause-err : goal.returns-in_err-judge_holds-clause-err
returns-in_err-judge_holds-clause-err c =
    let passed : c.from_residual-in_err-judge_holds.result ≡ Err c.in_err-judge_holds.field-0.0 = search rules in
    rw passed (c.in_err-judge_holds.ensures.err c.args.config.now)

pub returns-in_err-judge_peers-clause-err : goal.returns-in_err-judge_peers-clause-err
returns-in_err-judge_peers-clause-err c =
    let passed : c.from_residual-in_err-judge_peers.result ≡ Err c.in_err-judge_peers.field-0.0 = search rules in
    rw passed c.in_err-judge_peers.ensures.err
