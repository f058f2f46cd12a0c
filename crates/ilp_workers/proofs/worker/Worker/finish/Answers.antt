use Rattle.std.proofs.Common.{sym, subst}
use Rattle.ilp_replies.specs.declared.answer.Receipt.{Receipt}
use Rattle.ilp_replies.specs.Replies.{octets_of}
use Rattle.ilp_workers.specs.Halves.{IsKeptFor, IsFinished}
use Rattle.ilp_workers.proofs.Booking.{finished_by}
use Rattle.ilp_workers.proofs.worker.Worker.finish.Goals as goal

-- what was booked is kept where a Fulfill is owed, and told
pub returns-clause-finished : goal.returns-clause-finished
returns-clause-finished g c =
    let desk = g.J.Naming.desk in
    let p = c.args.pending in
    let came = octets_of c.args.came in
    let old = c.args.self.now in
    let left = c.book-booked.new.self in
    let new = c.keep_for-handed.new.self in
    let b = c.book-booked.result in
    let kept : IsKeptFor b.receipt.rejected left new = subst (λ (r : Receipt). IsKeptFor r.rejected left new) c.receipt.ensures c.keep_for-handed.ensures.kept in
    let whole : IsFinished desk p came old new b.receipt b.octets = finished_by desk p came old left new b c.book-booked.ensures.booked kept in
    subst (λ (r : Receipt). IsFinished desk p came old new r c.tell.result.octets.octets) (sym c.tell.ensures.receipt)
    (subst (λ o. IsFinished desk p came old new b.receipt o) (sym c.tell.ensures.octets) whole)
