use Rattle.ilp_lookup.proofs.Longest.{AreShorter}
use Rattle.ilp_lookup.proofs.routes.RouteIndex.longest_match.Given as goal

-- the prefixes that match and were not looked up are those of the dots that are left
abbrev pub invariant-loop-place : goal.invariant-loop-place
invariant-loop-place g l = AreShorter l.self l.octets l.place
