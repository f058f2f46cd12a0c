use Rattle.std.proofs.Common.{ℕ, arith}
use Rattle.std.proofs.lemmas.Option.{slice_get_within}
use Rattle.toml.specs.View.{table_view}
use Rattle.ilp_warnings.specs.declared.warning.ConfigTable.TheVariants.{Route}
use Rattle.ilp_warnings.specs.Complete.{KeepsAll, IsTableTold, IsRouteTold}
use Rattle.ilp_warnings.proofs.KeysTold.{table_kept}
use Rattle.ilp_warnings.proofs.Keeping.{one_more}
use Rattle.ilp_warnings.proofs.telling.tell_routes.Goals as goal

-- a route that leads somewhere stands among those that were gone through
pub returns-clause-routes : goal.returns-clause-routes
returns-clause-routes c = λ route below peer leads h.
    let inside = slice_get_within c.args.examined.targets.now route peer leads in
    c.loop-route.invariant.2 route (omega (arith, below, inside, c.min-route-end.ensures, c.loop-route-test.false)) peer leads h

pub returns-clause-fields : goal.returns-clause-fields
returns-clause-fields c = λ n inside few. c.loop-route.invariant.3 n (omega (arith, inside, few, c.min-route-end.ensures, c.loop-route-test.false))

-- each turn keeps what was told, and tells of one more route
pub loop-route-preserved : goal.loop-route-preserved
loop-route-preserved c =
    let C = c.args.examined.config.now in
    let t = table_view c.args.examined.table.now in
    let targets = c.args.examined.targets.now in
    let turn = c.loop-route in
    let route = c.in_ok-tell_route.ensures in
    let later : KeepsAll turn.told.items c.tell_route.new.told.items = λ w has. route.kept w (c.in_ok-tell_table.ensures.kept w has) in (
      route.sound,
      (λ w has. later w (turn.invariant.1 w has)),
      one_more (λ (n : ℕ). IsRouteTold C targets n turn.told.items) (λ (n : ℕ). IsRouteTold C targets n c.tell_route.new.told.items) turn.route (λ n told peer leads h. later _ (told peer leads h)) turn.invariant.2 route.route,
      one_more (λ (n : ℕ). IsTableTold t (Route n) turn.told.items) (λ (n : ℕ). IsTableTold t (Route n) c.tell_route.new.told.items) turn.route (λ n told. table_kept t (Route n) _ _ later told) turn.invariant.3 (table_kept t (Route turn.route) _ _ route.kept c.in_ok-tell_table.ensures.fields),
    )
