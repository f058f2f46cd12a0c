use Rattle.std.proofs.Common.{arith}
use Rattle.jiff_core.proofs.SignedLemmas.{signed_arith}
use Rattle.ilp_terms.specs.Calendar.{IsDate}
use Rattle.ilp_terms.proofs.CalendarLemmas.{counted_from, same_month_length, day_number_least}
use Rattle.ilp_terms.proofs.calendar.day_number.Goals as goal

pub returns-clause-value : goal.returns-clause-value
returns-clause-value c =
    let number = counted_from c.to_unix_epoch_day.result c.args.year c.args.month c.args.day c.requires.year_in c.if-day-lt1.false c.to_unix_epoch_day.ensures.value in
    let length = same_month_length c.args.year c.args.month c.requires.year_in in
    let fits = c.month_has.ensures.0 c.if-not-month_has.false in
    let date : IsDate c.args.year c.args.month c.args.day = record {
      year_in = c.requires.year_in;
      month_in = (omega arith, omega arith);
      day_in = (omega arith, rw (← length) fits);
    } in
    (date, omega (arith, signed_arith, number))

pub returns-clause-bound : goal.returns-clause-bound
returns-clause-bound c =
    let number = counted_from c.to_unix_epoch_day.result c.args.year c.args.month c.args.day c.requires.year_in c.if-day-lt1.false c.to_unix_epoch_day.ensures.value in
    let least = day_number_least c.args.year c.args.month c.args.day in
    (omega (arith, signed_arith, number, least), omega (arith, signed_arith, c.to_unix_epoch_day.ensures.bound.1))
