use Rattle.std.proofs.Common.{◌≡◌, true, rules, sym, ◌∙◌, subst}
use Rattle.std.specs.Prelude.{Ok}
use Rattle.std.specs.declared.alloc.AllocError.{AllocError}
use Rattle.ilp_settler.specs.Settler.{PlainSettler, settler}
use Rattle.ilp_settler.specs.Halves.{IsSeeking}
use Rattle.ilp_settler.proofs.Halving.{begun_by}
use Rattle.ilp_settler.proofs.settling.SettlerParts.begin.Goals as goal

-- there is a settlement
pub returns-in-Ok-seek-clause-begun : goal.returns-in-Ok-seek-clause-begun
returns-in-Ok-seek-clause-begun g c =
    let desk = g.J.Naming.desk in
    let own = c.args.self.now in
    let mid = c.seek.new.self in
    let last = c.give_out.new.self in
    let before : PlainSettler = settler own.share own.records.items (g.C.Clock.told own.clock) (g.E.EngineLink.told own.engine) own.accounts own.tried own.receipt (g.K.Keeper.told own.keeper) own.pending in
    let between : PlainSettler = settler mid.share mid.records.items (g.C.Clock.told mid.clock) (g.E.EngineLink.told mid.engine) mid.accounts mid.tried mid.receipt (g.K.Keeper.told mid.keeper) mid.pending in
    let after : PlainSettler = settler last.share last.records.items (g.C.Clock.told last.clock) (g.E.EngineLink.told last.engine) last.accounts last.tried last.receipt (g.K.Keeper.told last.keeper) last.pending in
    let room = c.make_room.new.self in
    let roomy : PlainSettler = settler room.share room.records.items (g.C.Clock.told room.clock) (g.E.EngineLink.told room.engine) room.accounts room.tried room.receipt (g.K.Keeper.told room.keeper) room.pending in
    let known : c.knows_account.result ≡ true = search rules in
    let sought : IsSeeking desk c.args.peer before between (Ok c.in-Ok-seek.asked) =
    subst (λ (s : PlainSettler). IsSeeking desk c.args.peer s between (Ok c.in-Ok-seek.asked)) {x = roomy} {y = before} c.in-Ok.ensures.others c.in-Ok-seek.ensures.sought in
    begun_by g.row.A.Denot AllocError desk c.args.peer before between after c.in-Ok-seek.asked c.give_out.result (sym c.knows_account.ensures ∙ known) sought c.give_out.ensures
