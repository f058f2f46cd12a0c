use Rattle.std.proofs.Common.{◌≡◌, ◌≢◌, rules, ap, subst}
use Rattle.std.specs.Prelude.{Result, Err, ok_or}
use Rattle.ilp_book.specs.declared.calls.Asked.{Asked}
use Rattle.ilp_book.specs.declared.fault.AskFault.{AskFault}
use Rattle.ilp_book.specs.declared.fault.AskFault.TheVariants as ask_fault
use Rattle.ilp_settler.specs.Settler.{PlainSettler, settler, IsAsking}
use Rattle.ilp_settler.specs.Halves.{IsSeeking}
use Rattle.ilp_settler.proofs.Halving.{sought_open}
use Rattle.ilp_settler.proofs.settling.SettlerParts.seek.Goals as goal

-- a book refused a settlement, and not for want of memory
pub returns-in-Err-clause-sought : goal.returns-in-Err-clause-sought
returns-in-Err-clause-sought g c =
    let desk = g.J.Naming.desk in
    let own = c.args.self.now in
    let mid = c.ask.new.self in
    let last = c.choose.new.self in
    let before : PlainSettler = settler own.share own.records.items (g.C.Clock.told own.clock) (g.E.EngineLink.told own.engine) own.accounts own.tried own.receipt (g.K.Keeper.told own.keeper) own.pending in
    let between : PlainSettler = settler mid.share mid.records.items (g.C.Clock.told mid.clock) (g.E.EngineLink.told mid.engine) mid.accounts mid.tried mid.receipt (g.K.Keeper.told mid.keeper) mid.pending in
    let after : PlainSettler = settler last.share last.records.items (g.C.Clock.told last.clock) (g.E.EngineLink.told last.engine) last.accounts last.tried last.receipt (g.K.Keeper.told last.keeper) last.pending in
    let fault : AskFault = c.in-Err.fault in
    let other : fault ≢ ask_fault.Memory = search rules in
    let asking : IsAsking desk c.args.peer before.moments between.moments before.seen between.seen before.share between.share (Err fault) = search rules in
    let others : after ≡ record before { share = after.share; moments = after.moments; seen = after.seen } = search rules in
    let books = c.choose.ensures.books in
    let result : ok_or c.choose.result fault ≡ c.ok_or.result = search rules in
    subst (λ (r : Result Asked AskFault). IsSeeking desk c.args.peer before after r) result
    (sought_open desk c.args.peer before between after fault c.choose.result other asking c.choose.ensures.chosen c.ask.ensures.others.2 books.0 (ap g.C.Clock.told books.2) others)
