use Rattle.std.proofs.Common.{◌≡◌, ◌∙◌, sym, subst, arith, rules}
use Rattle.jiff_core.proofs.SignedLemmas.{signed_arith}
use Rattle.ilp_terms.specs.Calendar.{IsDayNumber, day_number}
use Rattle.ilp_terms.specs.Expiry.{IsExpiry, IsMoment, year, month, day}
use Rattle.ilp_terms.proofs.ExpiryLemmas.{date_at, day_number_at, time_of_day_below, moment_in}
use Rattle.ilp_terms.proofs.expiry.expiry_read.Goals as goal

pub returns-clause-value : goal.returns-clause-value
returns-clause-value c =
    let text = c.args.text.now in
    let named = c.in_ok-day.ensures.value in
    let bound = c.in_ok-day.ensures.bound in
    let valid : IsExpiry text = record {
      seventeen = search rules;
      digits = c.is_all_digits.ensures.0 c.if-not-is_all_digits.false;
      date_in = date_at _ _ _ _ _ _ (omega arith) (omega arith) (omega arith) named.0;
      hour_in = omega arith;
      minute_in = omega arith;
      second_in = omega arith;
    } in
    let number : c.in_ok-day.day ≡ day_number (year text) (month text) (day text) =
    named.1 ∙ day_number_at _ _ _ _ _ _ (omega arith) (omega arith) (omega arith) in
    (valid, omega (arith, signed_arith, number, bound.0, bound.1, time_of_day_below text valid))

pub returns-clause-bound : goal.returns-clause-bound
returns-clause-bound c =
    let text = c.args.text.now in
    let read = returns-clause-value c in
    let number : c.in_ok-day.day ≡ day_number (year text) (month text) (day text) =
    c.in_ok-day.ensures.value.1 ∙ day_number_at _ _ _ _ _ _ (omega arith) (omega arith) (omega arith) in
    subst IsMoment (sym read.1) (moment_in text read.0 (subst IsDayNumber number c.in_ok-day.ensures.bound))
