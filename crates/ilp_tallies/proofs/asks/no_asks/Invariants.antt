use Rattle.std.proofs.Common.{◌≡◌, [], replicate}
use Rattle.ilp_tallies.proofs.asks.no_asks.Given as goal

-- so many rows so far
abbrev pub invariant-loop-peer : goal.invariant-loop-peer
invariant-loop-peer g l = l.rows.items ≡ replicate l._peer []
