use Rattle.std.proofs.Common.{◌≡◌, ◌∙◌}
use Rattle.std.proofs.lemmas.List.Elements.{same_from_all_zip}
use Rattle.ilp_lookup.proofs.Found.{routes_of, same-routes}
use Rattle.ilp_lookup.proofs.routes.RouteIndex.copy.Given as given
use Rattle.ilp_lookup.proofs.routes.RouteIndex.copy.Goals as goal

-- the copy has the same routes
same : (g : given.Over) (c : goal.In_ok-peers g) → routes_of (λ v. v.items) c.in_ok-peers.peers.entries ≡ routes_of (λ v. v.items) c.self.inside.peers.entries
same g c = same-routes (λ v. v.items) _ (λ x y h. (same_from_all_zip _ x.0.items y.0.items h.0.0 (λ a b is. is), h.1)) c.self.inside.peers.entries c.in_ok-peers.peers.entries c.in_ok-peers.ensures.cases

pub invariant_of-result : goal.invariant_of-result
invariant_of-result g c = rw (same g c) c.self.invariant

pub returns : goal.returns
returns g c = same g c ∙ c.self.view_is
