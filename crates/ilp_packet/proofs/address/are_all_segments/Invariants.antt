use Rattle.std.proofs.Common.{◌≡◌, false, not, ◌&&◌, drop}
use Rattle.ilp_packet.specs.Address.{is_dot, are_segments}
use Rattle.ilp_packet.proofs.address.are_all_segments.Given as goal

-- the octets that are left decide, unless one before them was refused
abbrev pub invariant-loop-octet : goal.invariant-loop-octet
invariant-loop-octet l =
    (l.passed && are_segments (not (is_dot l.before)) (drop l.octet-index l.octets)) ≡ are_segments false l.octets
