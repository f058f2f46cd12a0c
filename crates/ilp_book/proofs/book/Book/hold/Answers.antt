use Rattle.std.proofs.Common.{ℤ, ap, ◌∙◌, subst, rules}
use Rattle.std.specs.Prelude.{FitsSigned}
use Rattle.std.specs.Int.{w64}
use Rattle.std.proofs.lemmas.Int.{to_z-of_z}
use Rattle.ilp_lookup.specs.Answer.{routed_peer}
use Rattle.ilp_lookup.proofs.OneRoute.{one-route}
use Rattle.ilp_lookup.proofs.RoutedPeer.{IsRoute-routed_peer}
use Rattle.ilp_packet.specs.Packet.{plain_prepare}
use Rattle.ilp_rules.specs.Book.{PlainBook, by, Does}
use Rattle.ilp_book.specs.HoldStep.{given_route, hold_step, growth_of}
use Rattle.ilp_book.proofs.HoldSteps.{hold_by_route}
use Rattle.ilp_book.proofs.book.Book.hold.Goals as goal

-- the route that was looked up is the one route
pub returns-clause-step : goal.returns-clause-step
returns-clause-step g c =
    let book = c.args.self.now in
    let destination = c.args.prepare.now.destination.now in
    let p = plain_prepare c.args.prepare.now in
    let inside = c.self.inside.config in
    let same = one-route inside.routes c.self.invariant.0.valid.prefixes destination c.route-route.result (routed_peer inside.routes destination) c.route-route.ensures.route (IsRoute-routed_peer inside.routes destination) in
    let fits : FitsSigned w64 c.args.now = search rules in
    let Done : ℤ → Type 0 = λ t. Does book c.hold_routed.new.self c.hold_routed.result (hold_step book (by c.args.actor t) (given_route c.args.from p c.route-route.result) (growth_of c.hold_routed.result)) in
    hold_by_route book c.hold_routed.new.self (by c.args.actor c.args.now) c.args.from p (growth_of c.hold_routed.result) c.hold_routed.result c.route-route.result
    (same ∙ ap (λ (b : PlainBook). routed_peer b.config.routes destination) c.self.view_is)
    (subst Done (to_z-of_z w64 c.args.now fits) c.hold_routed.ensures.step)
