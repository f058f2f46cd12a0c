use Rattle.std.proofs.lemmas.Result.{on_ok_weaker, on_err_weaker, err_from_is_err_and, IfErr-weaker}
use Rattle.ilp_io.proofs.WrittenLemmas.{at_err}
use Rattle.ilp_rules.proofs.Judging.{judged_good, timely_last, limits_last, breaks_rule}
use Rattle.ilp_rules.proofs.Keeping.{rule_last}
use Rattle.ilp_rules.proofs.carrying.Carrying.judge.Goals as goal

pub returns-in_err-judge_moment-clause-err : goal.returns-in_err-judge_moment-clause-err
returns-in_err-judge_moment-clause-err g c =
    at_err c.from_residual.result _ (λ lawful. c.in_err-judge_moment.ensures.err (timely_last c.args.self.now c.args.entry.now lawful))

pub returns-in_err-judge_rule-clause-err : goal.returns-in_err-judge_rule-clause-err
returns-in_err-judge_rule-clause-err g c =
    at_err c.from_residual-in_err-judge_rule.result _ (λ lawful. c.in_err-judge_rule.ensures.err (rule_last c.args.self.now c.args.entry.now lawful))

pub returns-clause-ok : goal.returns-clause-ok
returns-clause-ok g c =
    on_ok_weaker c.judge_limits.result (λ limits. judged_good c.args.self.now c.args.entry.now c.judge_moment.ensures.valid c.judge_moment.ensures.lawful c.judge_moment.ensures.behind
    c.in_ok-judge_moment.ensures.ok c.in_ok-judge_rule.ensures.ok limits) c.judge_limits.ensures.ok

pub returns-clause-err : goal.returns-clause-err
returns-clause-err g c =
    on_err_weaker c.judge_limits.result (λ not_kept lawful. not_kept (limits_last c.args.self.now c.args.entry.now c.judge_moment.ensures.lawful lawful)) c.judge_limits.ensures.err

pub returns-in_err-judge_moment-clause-broken : goal.returns-in_err-judge_moment-clause-broken
returns-in_err-judge_moment-clause-broken g c =
    let p = err_from_is_err_and c.from_residual.result c.from_residual.ensures.1 in
    rw (p.1, p.2) c.in_err-judge_moment.ensures.broken

pub returns-in_err-judge_rule-clause-broken : goal.returns-in_err-judge_rule-clause-broken
returns-in_err-judge_rule-clause-broken g c =
    let p = err_from_is_err_and c.from_residual-in_err-judge_rule.result c.from_residual-in_err-judge_rule.ensures.1 in
    rw (p.1, p.2) (breaks_rule c.args.self.now.config c.args.self.now.period c.args.self.now.entries c.args.entry.now c.in_err-judge_rule.field-0.0 c.in_err-judge_rule.ensures.broken)

pub returns-clause-broken : goal.returns-clause-broken
returns-clause-broken g c =
    IfErr-weaker c.judge_limits.result _ _ (λ rule breaks. breaks_rule c.args.self.now.config c.args.self.now.period c.args.self.now.entries c.args.entry.now rule breaks) c.judge_limits.ensures.broken
