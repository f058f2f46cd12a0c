use Rattle.std.proofs.Common.{◌≡◌, ◌∙◌, ◌≤◌, length, subst}
use Rattle.std.specs.Prelude.{IfOk, IfErr}
use Rattle.ilp_accounts.specs.Configuration.{Configuration}
use Rattle.ilp_running.specs.Logging.{form_of, began_at, EndsLog, IsBegun}
use Rattle.ilp_running.specs.Serving.{desk_of, IsClosed, IsWhyUnclosed}
use Rattle.ilp_running.proofs.Alone.{alone_begun}
use Rattle.ilp_running.proofs.Where.{where_some}
use Rattle.ilp_running.proofs.serving.run_begun.Goals as goal

pub run_period-requires-clause-base : goal.run_period-requires-clause-base
run_period-requires-clause-base g c κs within =
    where_some (λ l. l.start.base ≤ length c.args.begun.book.entries) c.args.begun.log c.args.begun.base

pub run_period-requires-clause-begun : goal.run_period-requires-clause-begun
run_period-requires-clause-begun g c κs within claims =
    let D = g.D.Device in
    where_some (λ l. IsBegun D.seen D.may_leave l) c.args.begun.log (λ l is. alone_begun D.seen D.may_leave l (c.args.begun.alone claims l is))

-- The configuration is a copy of the book's.
pub returns-clause-closed : goal.returns-clause-closed
returns-clause-closed g c =
    let same : c.in-Ok.config ≡ c.args.begun.book.config = c.in-Ok.ensures ∙ c.config.ensures.value in
    subst (λ (C : Configuration). IfOk c.run_period.result (λ period. IsClosed (desk_of C c.args.begun.book) period.run.book)) same c.run_period.ensures.closed

pub returns-clause-logged : goal.returns-clause-logged
returns-clause-logged g c claims =
    let D = g.D.Device in
    let same : c.in-Ok.config ≡ c.args.begun.book.config = c.in-Ok.ensures ∙ c.config.ensures.value in
    subst (λ (C : Configuration). IfOk c.run_period.result (λ period. EndsLog D.seen D.may_leave D.left_since (form_of D.seen C c.args.begun.log) (began_at D.moment c.args.begun.log) period.run.book.entries period.run.log)) same (c.run_period.ensures.logged claims)

pub returns-clause-refused : goal.returns-clause-refused
returns-clause-refused g c =
    let same : c.in-Ok.config ≡ c.args.begun.book.config = c.in-Ok.ensures ∙ c.config.ensures.value in
    subst (λ (C : Configuration). IfErr c.run_period.result (IsWhyUnclosed (desk_of C c.args.begun.book))) same c.run_period.ensures.refused
