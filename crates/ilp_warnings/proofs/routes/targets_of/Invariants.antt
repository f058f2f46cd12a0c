use Rattle.std.proofs.Common.{◌<◌, All, length}
use Rattle.toml.specs.Data.{Members}
use Rattle.ilp_fields.specs.Checks.{first_beside}
use Rattle.ilp_accounts.specs.Configuration.{peer_names, route_of}
use Rattle.ilp_accounts.proofs.Turns.{IsRead}
use Rattle.ilp_warnings.proofs.Targets.{none}
use Rattle.ilp_warnings.proofs.routes.targets_of.Given as goal

abbrev pub invariant-loop-value : goal.invariant-loop-value
invariant-loop-value l =
    let give = λ (t : Members). (route_of (peer_names l.config.peers) t).peer in
    All (λ peer. peer < length l.config.peers) l.targets.items × IsRead (first_beside none give) give l.values l.value-index l.targets.items
