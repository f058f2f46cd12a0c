use Rattle.std.proofs.Common.{◌≡◌, ◌≤◌, Err, length, arith, rules}
use Rattle.ilp_follows.proofs.Standing.{no_other_keys}
use Rattle.ilp_follows.proofs.ended.EndedPeriod.judge_keys.Goals as goal

pub returns-in_err-judge_key-clause-err : goal.returns-in_err-judge_key-clause-err
returns-in_err-judge_key-clause-err c =
    let passed : c.from_residual.result ≡ Err c.in_err-judge_key.field-0.0 = search rules in
    rw passed c.in_err-judge_key.ensures.err

-- all credits were looked at
pub returns-clause-ok : goal.returns-clause-ok
returns-clause-ok c = λ p known.
    no_other_keys c.args.self.now c.args.config.now c.loop-number.number (omega (arith, c.loop-number-test.false, c.len-number-end.ensures)) c.loop-number.invariant p
