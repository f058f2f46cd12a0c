use Rattle.std.specs.Prelude.{None}
use Rattle.ilp_serve.proofs.Behind.{follows_any}
use Rattle.ilp_serve.proofs.periods.Periods.go_on_by_own.Goals as goal

-- What comes behind follows, whatever is told of it.
pub returns-clause-follows : goal.returns-clause-follows
returns-clause-follows g c =
    let followed = c.in_ok-period.field-0 in
    follows_any followed.change c.args.ended.book None followed.period.book c.in_ok-period.ensures.follows
