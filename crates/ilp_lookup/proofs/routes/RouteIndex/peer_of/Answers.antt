use Rattle.std.proofs.Common.{subst, ◌∙◌}
use Rattle.ilp_lookup.specs.Route.{IsPeerOf}
use Rattle.ilp_lookup.proofs.Found.{IsPeerOf-lookup}
use Rattle.ilp_lookup.proofs.routes.RouteIndex.peer_of.Goals as goal

pub returns : goal.returns
returns g c =
    subst (λ routes. IsPeerOf routes c.args.prefix.now c.copied.result) c.self.view_is
    (rw (c.copied.ensures ∙ c.get.ensures.value) (IsPeerOf-lookup (λ v. v.items) c.args.prefix.now c.self.inside.peers.entries))
