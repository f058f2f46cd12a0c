use Rattle.std.proofs.Common.{subst, to_z, of_z}
use Rattle.std.specs.Int.{w64}
use Rattle.ilp_book.specs.Book.{by}
use Rattle.ilp_book.specs.SettleStep.{close_step}
use Rattle.ilp_desk.specs.Session.{IsSession}
use Rattle.ilp_desk.proofs.Callers.{close_by}
use Rattle.ilp_desk.proofs.Sessions.{LeavesAll, after_session, tells_more}
use Rattle.ilp_desk.proofs.locked.LockedBook.settle_close.Given as given
use Rattle.ilp_desk.proofs.locked.LockedBook.settle_close.Goals as goal

-- the step is the share's actor's
leaves : (g : given.Over) (c : goal.After-grow g) → LeavesAll g.J.Naming.desk g.J.Ledger.parts c.self.inside.workers c.count.new.total.total c.self.inside.book c.settle_close-result.new.self c.args.share.now c.count.new.self
leaves g c =
    let old = c.self.inside.book in
    let caller = by c.actor.result (to_z w64 (of_z w64 c.args.now)) in
    let step = c.settle_close-result.ensures in
    after_session g.J.Naming.desk g.J.Ledger.parts c.self.inside.workers c.self.inside.total.total c.count.new.total.total c.len-before.result c.len.result c.actor.result
    old c.settle_close-result.new.self c.args.share.now c.count.new.self c.settle_close-result.result (close_step old caller c.args.number c.args.verdict)
    c.self.invariant.0 step.step step.lawful c.actor.ensures.known (close_by old caller c.args.number c.args.verdict)
    c.len-before.ensures c.len.ensures c.count.ensures.total c.count.ensures.share

pub invariant_of-self : goal.invariant_of-self
invariant_of-self g c = ((leaves g c).0, c.grow.ensures)

pub returns-clause-session : goal.returns-clause-session
returns-clause-session g c =
    subst (λ b. IsSession g.J.Naming.desk b c.settle_close-result.new.self c.args.share.now c.count.new.self) c.self.view_is (leaves g c).1

-- the list goes on with the entry, if there is one
pub grow-requires : goal.grow-requires
grow-requires g c = tells_more c.self.inside.entries c.self.inside.book c.settle_close-result.new.self _ _ c.self.invariant.1 c.settle_close-result.ensures.step
