use Rattle.std.specs.Prelude.{◌<◌, length, IfSome}
use Rattle.ilp_inquiry.proofs.naming.nearest.Given as goal

-- The nearest one so far is a peer.
abbrev pub invariant-loop-peer : goal.invariant-loop-peer
invariant-loop-peer l = IfSome l.nearest (λ peer. peer < length l.config.peers)
