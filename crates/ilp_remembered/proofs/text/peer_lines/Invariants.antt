use Rattle.std.proofs.Common.{◌≡◌, take}
use Rattle.std.specs.Prelude.{string_bytes}
use Rattle.std.specs.List.{flat_map}
use Rattle.ilp_remembered.specs.Remembered.{whole_peer_line}
use Rattle.ilp_remembered.proofs.text.peer_lines.Given as goal

-- the lines of the peers so far
abbrev pub invariant-loop-peer : goal.invariant-loop-peer
invariant-loop-peer l = string_bytes l.lines ≡ flat_map (whole_peer_line l.config) (take l.peer l.config.peers)
