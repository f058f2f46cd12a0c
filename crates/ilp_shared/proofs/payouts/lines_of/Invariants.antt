use Rattle.std.proofs.Common.{◌≡◌, List, ℕ, map, string_bytes}
use Rattle.std.specs.List.{flat_map, range_with_len}
use Rattle.ilp_shared.specs.Payouts.{peer_line}
use Rattle.ilp_shared.proofs.payouts.lines_of.Given as goal

-- those of the peers so far
abbrev pub invariant-loop-peer : goal.invariant-loop-peer
invariant-loop-peer l = l.lines.items ≡ flat_map (λ (own : List ℕ). own) (map (peer_line (map string_bytes l.named) l.config) (range_with_len 0 l.peer))
