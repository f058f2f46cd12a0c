use Rattle.std.proofs.Common.{◌≡◌, ◌≤◌, Err, length, ap, arith, rules}
use Rattle.ilp_rules.specs.CreditTables.{credit_numbers}
use Rattle.ilp_next_period.proofs.NextJudging.{no_other_keys}
use Rattle.ilp_next_period.proofs.ending_period.EndingPeriod.judge_keys.Goals as goal

pub returns-in_err-judge_key-clause-err : goal.returns-in_err-judge_key-clause-err
returns-in_err-judge_key-clause-err g c = λ now.
    let passed : c.from_residual.result ≡ Err c.in_err-judge_key.field-0.0 = search rules in
    rw passed (c.in_err-judge_key.ensures.err now)

-- all credits were looked at
pub returns-clause-ok : goal.returns-clause-ok
returns-clause-ok g c = λ p known q there differ key.
    let all : length (credit_numbers c.args.self.now.entries) ≤ c.loop-number.number-index = omega (arith, c.loop-number-test.false, ap length c.credit_numbers-number-items.ensures) in
    no_other_keys c.args.self.now c.args.config.now c.loop-number.number-index all c.loop-number.invariant p q there differ key
