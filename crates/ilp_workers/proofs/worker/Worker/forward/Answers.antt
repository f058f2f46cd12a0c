use Rattle.std.proofs.Common.{sym, subst}
use Rattle.std.specs.Prelude.{Ok}
use Rattle.ilp_replies.specs.declared.answer.Receipt.{Receipt}
use Rattle.ilp_workers.specs.declared.in_flight.Begun.{Begun}
use Rattle.ilp_workers.specs.Worker.{PlainWorker}
use Rattle.ilp_workers.specs.Arrivals.{arrival, Forwards}
use Rattle.ilp_replies.specs.Replies.{octets_of}
use Rattle.ilp_workers.specs.Halves.{StartsWaiting, Begins}
use Rattle.ilp_workers.proofs.Halving.{forwards_by_halves}
use Rattle.ilp_workers.proofs.worker.Worker.forward.Goals as goal

-- a Prepare was begun, handed on and finished
pub returns-in-Ok-Waits-clause-forwarded : goal.returns-in-Ok-Waits-clause-forwarded
returns-in-Ok-Waits-clause-forwarded g c =
    let a = arrival g.J.Naming.desk c.args.from c.args.octets.now in
    let old = c.args.self.now in
    let answer = c.finish-answer.result in
    let waits : StartsWaiting a old c.begin.new.self c.in-Ok-Waits.pending =
    subst (λ (b : Begun g.row.J.Denot g.row.A.Denot). Begins a old c.begin.new.self (Ok b)) c.in-Ok-Waits.field-0-is c.in-Ok-Waits.ensures.begun in
    let whole = forwards_by_halves a old c.begin.new.self c.hand-came.new.self c.finish-answer.new.self c.in-Ok-Waits.pending
    (octets_of c.hand-came.result) answer.receipt answer.octets.octets waits c.hand-came.ensures.handed c.finish-answer.ensures.finished in
    subst (λ (r : Receipt). Forwards a old c.reply_with.new.self (Ok r)) (sym c.reply_with.ensures.receipt)
    (subst (λ (w : PlainWorker). Forwards a old w (Ok answer.receipt)) (sym c.reply_with.ensures.replied) whole)
