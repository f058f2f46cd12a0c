-- The peer of octets as a value: what `IsRoute` of `Route` says of it is a law, so that texts and tables can name the one answer.
use Rattle.std.specs.Prelude.{ℕ, Bool, true, List, [], ◌∷◌, ◌++◌, length, codes, bytes_eq, ◌==◌, ◌||◌, nat_le, Option, Some, None, option_map, if◌then◌else◌}
use Rattle.std.specs.List.{starts_with}
use Rattle.ilp_lookup.specs.Route.{Route}

-- whether octets begin with others
abbrev pub begins : List ℕ → List ℕ → Bool
begins octets first = starts_with (λ (a b : ℕ). a == b) octets first

-- whether a prefix matches
abbrev pub matches : List ℕ → List ℕ → Bool
matches [] octets = true
matches prefix octets = bytes_eq octets prefix || begins octets (prefix ++ 46 ∷ [])

-- the longer of two routes, and the first of two of a length
abbrev pub longer : Route → Option Route → Route
longer route None = route
longer route (Some other) = if nat_le (length other.prefix) (length route.prefix) then route else other

-- the route with the longest prefix that matches
abbrev pub longest_of : List Route → List ℕ → Option Route
longest_of [] octets = None
longest_of (route ∷ routes) octets =
    if matches route.prefix octets then Some (longer route (longest_of routes octets)) else longest_of routes octets

-- the peer of the longest route that matches, save that octets of the scheme `peer` have none
unfoldable pub routed_peer : List Route → List ℕ → Option ℕ
routed_peer routes octets = if begins octets (codes "peer.") then None else option_map (λ route. route.peer) (longest_of routes octets)
