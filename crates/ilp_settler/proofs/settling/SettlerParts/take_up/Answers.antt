use Rattle.std.proofs.Common.{◌≡◌, true, rules, refl, sym, ◌∙◌, subst}
use Rattle.std.specs.Prelude.{Some, None}
use Rattle.std.specs.declared.alloc.AllocError.{AllocError}
use Rattle.ilp_settler.specs.declared.turn.Turn.TheVariants.{Withheld}
use Rattle.ilp_settler.specs.declared.asking.BegunTurn.TheVariants.{Over}
use Rattle.ilp_settler.specs.Settler.{PlainSettler, settler}
use Rattle.ilp_settler.specs.Halves.{IsLooking}
use Rattle.ilp_settler.proofs.Halving.{taken_by}
use Rattle.ilp_settler.proofs.settling.SettlerParts.take_up.Goals as goal

-- there is an open settlement
pub returns-in-Some-clause-taken : goal.returns-in-Some-clause-taken
returns-in-Some-clause-taken g c =
    let desk = g.J.Naming.desk in
    let own = c.args.self.now in
    let room = c.make_room.new.self in
    let mid = c.choose.new.self in
    let last = c.give_out.new.self in
    let before : PlainSettler = settler own.share own.records.items (g.C.Clock.told own.clock) (g.E.EngineLink.told own.engine) own.accounts own.tried own.receipt (g.K.Keeper.told own.keeper) own.pending in
    let roomy : PlainSettler = settler room.share room.records.items (g.C.Clock.told room.clock) (g.E.EngineLink.told room.engine) room.accounts room.tried room.receipt (g.K.Keeper.told room.keeper) room.pending in
    let between : PlainSettler = settler mid.share mid.records.items (g.C.Clock.told mid.clock) (g.E.EngineLink.told mid.engine) mid.accounts mid.tried mid.receipt (g.K.Keeper.told mid.keeper) mid.pending in
    let after : PlainSettler = settler last.share last.records.items (g.C.Clock.told last.clock) (g.E.EngineLink.told last.engine) last.accounts last.tried last.receipt (g.K.Keeper.told last.keeper) last.pending in
    let known : c.knows_account.result ≡ true = search rules in
    let others : between ≡ record roomy { seen = between.seen } = search rules in
    let looked : IsLooking desk c.args.peer before between (Some c.in-Some.open) =
    subst (λ (s : PlainSettler). IsLooking desk c.args.peer s between (Some c.in-Some.open)) {x = roomy} {y = before} c.in-Ok.ensures.others
    (record { chosen = c.in-Some.ensures.chosen; others = others }) in
    taken_by g.row.A.Denot AllocError desk c.args.peer before between after (Some c.in-Some.open) c.give_out.result (sym c.knows_account.ensures ∙ known) looked c.give_out.ensures

-- there is none
pub returns-in-None-clause-taken : goal.returns-in-None-clause-taken
returns-in-None-clause-taken g c =
    let desk = g.J.Naming.desk in
    let own = c.args.self.now in
    let room = c.make_room.new.self in
    let mid = c.choose.new.self in
    let before : PlainSettler = settler own.share own.records.items (g.C.Clock.told own.clock) (g.E.EngineLink.told own.engine) own.accounts own.tried own.receipt (g.K.Keeper.told own.keeper) own.pending in
    let roomy : PlainSettler = settler room.share room.records.items (g.C.Clock.told room.clock) (g.E.EngineLink.told room.engine) room.accounts room.tried room.receipt (g.K.Keeper.told room.keeper) room.pending in
    let after : PlainSettler = settler mid.share mid.records.items (g.C.Clock.told mid.clock) (g.E.EngineLink.told mid.engine) mid.accounts mid.tried mid.receipt (g.K.Keeper.told mid.keeper) mid.pending in
    let known : c.knows_account.result ≡ true = search rules in
    let others : after ≡ record roomy { seen = after.seen } = search rules in
    let looked : IsLooking desk c.args.peer before after None =
    subst (λ (s : PlainSettler). IsLooking desk c.args.peer s after None) {x = roomy} {y = before} c.in-Ok.ensures.others
    (record { chosen = c.in-None.ensures.chosen; others = others }) in
    taken_by g.row.A.Denot AllocError desk c.args.peer before after after None (Over Withheld) (sym c.knows_account.ensures ∙ known) looked (refl, refl)
