use Rattle.std.proofs.Common.{◌≡◌, take}
use Rattle.ilp_rules.specs.Configured.{peer_assets}
use Rattle.ilp_rules.proofs.tables.peer_assets.Given as goal

-- those so far
abbrev pub invariant-loop-peer : goal.invariant-loop-peer
invariant-loop-peer g l = l.assets.items ≡ take l.peer (peer_assets l.config)
