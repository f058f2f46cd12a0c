use Rattle.std.proofs.Common.{length, ap, sym, subst, ◌∙◌, arith}
use Rattle.std.proofs.lemmas.List.FromFn.{length-map-range_with_len}
use Rattle.std.proofs.lemmas.Result.{IfOk-weaker}
use Rattle.std.specs.Prelude.{Option, IfOk}
use Rattle.ilp_desk.specs.Desk.{actors_of}
use Rattle.ilp_desk.specs.Portion.{portion}
use Rattle.ilp_log.specs.declared.start.BegunLog.{BegunLog}
use Rattle.ilp_running.specs.Logging.{began_at, EndsLog}
use Rattle.ilp_running.proofs.Logged.{ends_since}
use Rattle.ilp_running.proofs.serving.serve_desk.Goals as goal

-- A desk has a share for each actor, and so two at least.
pub run_unlogged-requires-clause-shares : goal.run_unlogged-requires-clause-shares
run_unlogged-requires-clause-shares g c =
    let desk = g.J.Naming.desk in
    let shares = ap length c.in-Ok.ensures.shares ∙ length-map-range_with_len (λ actor. portion actor 0) 0 (actors_of desk) in
    omega (arith, shares, c.in-Ok.shares.ok.0)

pub serve_logged-requires-clause-shares : goal.serve_logged-requires-clause-shares
serve_logged-requires-clause-shares g c =
    let desk = g.J.Naming.desk in
    let shares = ap length c.in-Ok.ensures.shares ∙ length-map-range_with_len (λ actor. portion actor 0) 0 (actors_of desk) in
    omega (arith, shares, c.in-Ok.shares.ok.0)

-- What the log told as it began, it told at the moment of the file's device then.
pub returns-in-Some-clause-logged : goal.returns-in-Some-clause-logged
returns-in-Some-clause-logged g c claims =
    let D = g.D.Device in
    let form = g.K.LogNaming.form in
    subst (λ (log : Option (BegunLog _)). IfOk c.serve_logged.result (λ period. EndsLog D.seen D.may_leave D.left_since form (began_at D.moment log) period.run.book.entries period.run.log)) (sym c.in-Some.is)
    (IfOk-weaker c.serve_logged.result _ _
    (λ period ends. ends_since D.seen D.may_leave D.moment D.left_since form (D.moment c.in-Some.begun.file.device) c.begin-log.result.begun period.run.book.entries period.run.log (c.begin-log.ensures claims) ends)
    (c.serve_logged.ensures.logged claims))
