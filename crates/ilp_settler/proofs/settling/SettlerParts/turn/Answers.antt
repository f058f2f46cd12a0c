use Rattle.std.proofs.Common.{◌≡◌, rules, subst}
use Rattle.std.specs.Prelude.{Ok, Err}
use Rattle.std.specs.declared.alloc.AllocError.{AllocError}
use Rattle.ilp_settler.specs.declared.asking.BegunTurn.{BegunTurn}
use Rattle.ilp_settler.specs.declared.asking.BegunTurn.TheVariants.{Asks, Over}
use Rattle.ilp_settler.specs.Settler.{PlainSettler, settler}
use Rattle.ilp_settler.specs.Halves.{BeginsTurn}
use Rattle.ilp_settler.proofs.Halving.{IsKnowing, knowing, turn_by_halves, turn_over, turn_denied}
use Rattle.ilp_settler.proofs.settling.SettlerParts.turn.Goals as goal

-- a settlement was given out
pub returns-in-Ok-Asks-clause-turns : goal.returns-in-Ok-Asks-clause-turns
returns-in-Ok-Asks-clause-turns g c =
    let desk = g.J.Naming.desk in
    let own = c.args.self.now in
    let has = c.has_account.new.self in
    let mid = c.begin.new.self in
    let later = c.settle-said.new.self in
    let last = c.finish.new.self in
    let engine = g.E.EngineLink.told has.engine in
    let before : PlainSettler = settler own.share own.records.items (g.C.Clock.told own.clock) (g.E.EngineLink.told own.engine) own.accounts own.tried own.receipt (g.K.Keeper.told own.keeper) own.pending in
    let known : PlainSettler = settler has.share has.records.items (g.C.Clock.told has.clock) engine has.accounts has.tried has.receipt (g.K.Keeper.told has.keeper) has.pending in
    let begun : PlainSettler = settler mid.share mid.records.items (g.C.Clock.told mid.clock) (g.E.EngineLink.told mid.engine) mid.accounts mid.tried mid.receipt (g.K.Keeper.told mid.keeper) mid.pending in
    let asked : PlainSettler = settler later.share later.records.items (g.C.Clock.told later.clock) (g.E.EngineLink.told later.engine) later.accounts later.tried later.receipt (g.K.Keeper.told later.keeper) later.pending in
    let after : PlainSettler = settler last.share last.records.items (g.C.Clock.told last.clock) (g.E.EngineLink.told last.engine) last.accounts last.tried last.receipt (g.K.Keeper.told last.keeper) last.pending in
    let knows : IsKnowing c.args.peer before engine has.accounts = record { account = search rules; accounts_are = search rules } in
    let begins : BeginsTurn {A = g.row.A.Denot} {E = AllocError} desk c.args.peer (knowing before engine has.accounts) begun (Ok (Asks c.in-Ok-Asks.asking)) =
    subst (λ (s : PlainSettler). BeginsTurn {A = g.row.A.Denot} {E = AllocError} desk c.args.peer s begun (Ok (Asks c.in-Ok-Asks.asking))) {x = known} {y = knowing before engine has.accounts} c.has_account.ensures.others
    (subst (λ (b : BegunTurn g.row.A.Denot). BeginsTurn {A = g.row.A.Denot} {E = AllocError} desk c.args.peer known begun (Ok b)) c.in-Ok-Asks.field-0-is c.in-Ok-Asks.ensures.begun) in
    let others : asked ≡ record begun { engine = asked.engine } = search rules in
    turn_by_halves AllocError desk c.args.peer before begun asked after engine has.accounts c.in-Ok-Asks.asking c.settle-said.result c.finish.result
    knows begins.1 (record { handed = c.settle-said.ensures.handed; others = others }) c.finish.ensures.finished

-- the turn was over before
pub returns-in-Ok-Over-clause-turns : goal.returns-in-Ok-Over-clause-turns
returns-in-Ok-Over-clause-turns g c =
    let desk = g.J.Naming.desk in
    let own = c.args.self.now in
    let has = c.has_account.new.self in
    let last = c.begin.new.self in
    let engine = g.E.EngineLink.told has.engine in
    let before : PlainSettler = settler own.share own.records.items (g.C.Clock.told own.clock) (g.E.EngineLink.told own.engine) own.accounts own.tried own.receipt (g.K.Keeper.told own.keeper) own.pending in
    let known : PlainSettler = settler has.share has.records.items (g.C.Clock.told has.clock) engine has.accounts has.tried has.receipt (g.K.Keeper.told has.keeper) has.pending in
    let after : PlainSettler = settler last.share last.records.items (g.C.Clock.told last.clock) (g.E.EngineLink.told last.engine) last.accounts last.tried last.receipt (g.K.Keeper.told last.keeper) last.pending in
    let knows : IsKnowing c.args.peer before engine has.accounts = record { account = search rules; accounts_are = search rules } in
    let begins : BeginsTurn {A = g.row.A.Denot} {E = AllocError} desk c.args.peer (knowing before engine has.accounts) after (Ok (Over c.in-Ok-Over.turn)) =
    subst (λ (s : PlainSettler). BeginsTurn {A = g.row.A.Denot} {E = AllocError} desk c.args.peer s after (Ok (Over c.in-Ok-Over.turn))) {x = known} {y = knowing before engine has.accounts} c.has_account.ensures.others
    (subst (λ (b : BegunTurn g.row.A.Denot). BeginsTurn {A = g.row.A.Denot} {E = AllocError} desk c.args.peer known after (Ok b)) c.in-Ok-Over.field-0-is c.in-Ok-Over.ensures.begun) in
    turn_over AllocError desk c.args.peer before after engine has.accounts c.in-Ok-Over.turn knows begins.1

-- memory was denied
pub returns-in-Err-clause-turns : goal.returns-in-Err-clause-turns
returns-in-Err-clause-turns g c =
    let desk = g.J.Naming.desk in
    let own = c.args.self.now in
    let has = c.has_account.new.self in
    let last = c.begin.new.self in
    let engine = g.E.EngineLink.told has.engine in
    let before : PlainSettler = settler own.share own.records.items (g.C.Clock.told own.clock) (g.E.EngineLink.told own.engine) own.accounts own.tried own.receipt (g.K.Keeper.told own.keeper) own.pending in
    let known : PlainSettler = settler has.share has.records.items (g.C.Clock.told has.clock) engine has.accounts has.tried has.receipt (g.K.Keeper.told has.keeper) has.pending in
    let after : PlainSettler = settler last.share last.records.items (g.C.Clock.told last.clock) (g.E.EngineLink.told last.engine) last.accounts last.tried last.receipt (g.K.Keeper.told last.keeper) last.pending in
    let knows : IsKnowing c.args.peer before engine has.accounts = record { account = search rules; accounts_are = search rules } in
    let begins : BeginsTurn {A = g.row.A.Denot} {E = AllocError} desk c.args.peer (knowing before engine has.accounts) after (Err c.in-Err.fault) =
    subst (λ (s : PlainSettler). BeginsTurn {A = g.row.A.Denot} {E = AllocError} desk c.args.peer s after (Err c.in-Err.fault)) {x = known} {y = knowing before engine has.accounts} c.has_account.ensures.others c.in-Err.ensures.begun in
    turn_denied AllocError desk c.args.peer before after engine has.accounts c.in-Err.fault knows begins.1 (search rules)
