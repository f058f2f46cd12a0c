use Rattle.std.proofs.Common.{sym, ◌∙◌}
use Rattle.ilp_lookup.proofs.Found.{found-prefix, prefix-found}
use Rattle.ilp_lookup.proofs.routes.RouteIndex.has.Goals as goal

pub returns : goal.returns
returns g c = (
  λ there. found-prefix c.args.self.now c.args.prefix.now c.peer_of.result c.peer_of.ensures (sym c.is_some.ensures ∙ there),
  λ there. c.is_some.ensures ∙ prefix-found c.args.self.now c.args.prefix.now c.peer_of.result c.peer_of.ensures there,
)
