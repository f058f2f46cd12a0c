use Rattle.std.proofs.Common.{◌≡◌, ◌+◌, ◌≤◌, Err, None, w64, to_z, of_z, length, rules, sym, ap, subst, ◌∙◌}
use Rattle.std.specs.Prelude.{FitsSigned}
use Rattle.std.proofs.lemmas.Int.{to_z-of_z}
use Rattle.std.proofs.lemmas.Result.{err_from_is_err_and}
use Rattle.ilp_accounts.specs.Valid.{IsValid}
use Rattle.ilp_journal.specs.Journal.{open_count, open_hold_at}
use Rattle.ilp_rules.specs.Book.{PlainBook}
use Rattle.ilp_rules.specs.Carried.{begun_with}
use Rattle.ilp_rules.specs.Judging.{carrying}
use Rattle.ilp_rules.specs.Lawful.{IsLawful}
use Rattle.ilp_rules.proofs.LawfulGrowth.{limits_now}
use Rattle.ilp_next_period.specs.NextPeriod.{HasLeft, handed_on}
use Rattle.ilp_next_period.proofs.NextLawful.{no_holds}
use Rattle.ilp_next_period.proofs.NextSteps.{begins, all_made}
use Rattle.ilp_next_period.proofs.ending_period.EndingPeriod.bring_forward.Goals as goal

pub returns-in_err-judge_next-clause-err : goal.returns-in_err-judge_next-clause-err
returns-in_err-judge_next-clause-err g c =
    let passed : c.from_residual.result ≡ Err c.in_err-judge_next.field-0.0 = search rules in
    rw passed (c.in_err-judge_next.ensures.err c.args.now)

-- all of the head is left
pub open_balances-requires : goal.open_balances-requires
open_balances-requires g c =
    let book = c.args.self.now in
    let next = c.args.config.now in
    let now = to_z w64 (of_z w64 c.args.now) in
    let valid = subst (λ (b : PlainBook). IsValid b.config) c.self.view_is c.self.invariant.valid in
    let lawful = subst IsLawful c.self.view_is c.self.invariant.lawful in
    record {
      left = subst (λ (made : PlainBook). HasLeft book next now made (handed_on book next now))
          (sym (c.in_ok-next.ensures ∙ ap (λ (b : PlainBook). carrying next (b.period + 1)) c.self.view_is))
          (begins book next now valid lawful c.in_ok-judge_next.ensures.valid c.in_ok-judge_next.ensures.ok);
    }

pub bring_credits-requires : goal.bring_credits-requires
bring_credits-requires g c = record { left = c.in_ok-open_balances.ensures.ok }

pub bring_settlements-requires : goal.bring_settlements-requires
bring_settlements-requires g c = record { left = c.in_ok-bring_credits.ensures.ok }

pub returns-in_err-open_balances-clause-err : goal.returns-in_err-open_balances-clause-err
returns-in_err-open_balances-clause-err g c =
    let fits : FitsSigned w64 c.args.now = search rules in
    let p = err_from_is_err_and c.from_residual-in_err-open_balances.result c.from_residual-in_err-open_balances.ensures.1 in
    rw (p.1, p.2, sym (to_z-of_z w64 c.args.now fits)) c.in_err-open_balances.ensures.err

pub returns-in_err-bring_credits-clause-err : goal.returns-in_err-bring_credits-clause-err
returns-in_err-bring_credits-clause-err g c =
    let fits : FitsSigned w64 c.args.now = search rules in
    let p = err_from_is_err_and c.from_residual-in_err-bring_credits.result c.from_residual-in_err-bring_credits.ensures.1 in
    rw (p.1, p.2, sym (to_z-of_z w64 c.args.now fits)) c.in_err-bring_credits.ensures.err

pub returns-in_err-bring_settlements-clause-err : goal.returns-in_err-bring_settlements-clause-err
returns-in_err-bring_settlements-clause-err g c =
    let fits : FitsSigned w64 c.args.now = search rules in
    let p = err_from_is_err_and c.from_residual-in_err-bring_settlements.result c.from_residual-in_err-bring_settlements.ensures.1 in
    rw (p.1, p.2, sym (to_z-of_z w64 c.args.now fits)) c.in_err-bring_settlements.ensures.err

-- it has no holds
pub begun_with-requires : goal.begun_with-requires
begun_with-requires g c =
    let book = c.args.self.now in
    let next = c.args.config.now in
    let now = to_z w64 (of_z w64 c.args.now) in
    record {
      ended = λ n.
          subst (λ (b : PlainBook). open_hold_at b.entries n ≡ None) (sym (all_made book next now c.bring_settlements.new.next c.in_ok-bring_settlements.ensures.ok)) (no_holds book next now n);
    }

pub returns-clause-ok : goal.returns-clause-ok
returns-clause-ok g c =
    let book = c.args.self.now in
    let next = c.args.config.now in
    let now = to_z w64 (of_z w64 c.args.now) in
    let fits : FitsSigned w64 c.args.now = search rules in
    rw (sym (to_z-of_z w64 c.args.now fits))
    (c.begun_with.ensures ∙ ap (λ (b : PlainBook). begun_with b.config b.period b.entries) (all_made book next now c.bring_settlements.new.next c.in_ok-bring_settlements.ensures.ok))

-- it is lawful, so there was room
pub returns-clause-room : goal.returns-clause-room
returns-clause-room g c =
    let book = c.args.self.now in
    let next = c.args.config.now in
    let now = to_z w64 (of_z w64 c.args.now) in
    let fits : FitsSigned w64 c.args.now = search rules in
    rw (sym (to_z-of_z w64 c.args.now fits))
    (subst (λ (b : PlainBook). length b.entries + open_count b.entries ≤ b.config.settings.journal)
    (all_made book next now c.bring_settlements.new.next c.in_ok-bring_settlements.ensures.ok)
    (limits_now c.bring_settlements.new.next c.in_ok-bring_settlements.ensures.ok.front).room)
