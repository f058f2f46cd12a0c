-- Routes, and which of them serves some octets.
use Rattle.std.specs.Prelude.{◌≡◌, ◌≢◌, ◌⊎◌, ℕ, ◌≤◌, List, [], ◌∷◌, ◌++◌, length, codes, map, Contains, All, AllPairs, Option, Some, None}

-- what is sent to addresses of this prefix goes to the peer at this place
pub record Route : Type 0 where
  pub prefix : List ℕ
  pub peer : ℕ

-- the prefixes of the routes, in order
abbrev pub prefixes : List Route → List (List ℕ)
prefixes routes = map (λ route. route.prefix) routes

-- no two routes have the same prefix
abbrev pub AreDistinct : List Route → Type 0
AreDistinct routes = AllPairs (λ prefix later. prefix ≢ later) (prefixes routes)

-- A prefix matches where it is empty, is the octets themselves, or is followed in them by a dot.
abbrev pub Matches : List ℕ → List ℕ → Type 0
Matches prefix octets = (prefix ≡ []) ⊎ ((octets ≡ prefix) ⊎ ((rest : List ℕ) × (octets ≡ prefix ++ 46 ∷ rest)))

-- a configured route whose prefix matches, and every prefix that matches is at most as long
pub record IsLongest (routes : List Route) (octets : List ℕ) (route : Route) : Type 0 where
  pub configured : Contains routes route
  pub matching : Matches route.prefix octets
  pub longest : All (λ other. Matches other.prefix octets → length other.prefix ≤ length route.prefix) routes

-- The answer is the peer of the longest route, and none where no prefix matches.
abbrev pub IsBest : List Route → List ℕ → Option ℕ → Type 0
IsBest routes octets None = All (λ route. ¬ Matches route.prefix octets) routes
IsBest routes octets (Some peer) = (route : Route) × IsLongest routes octets route × (route.peer ≡ peer)

-- the octets are of the scheme `peer`
abbrev pub IsLocal : List ℕ → Type 0
IsLocal octets = (rest : List ℕ) × (octets ≡ codes "peer." ++ rest)

-- The answer is that of the longest route, save that octets of the scheme `peer` have none.
abbrev pub IsRoute : List Route → List ℕ → Option ℕ → Type 0
IsRoute routes octets None = IsLocal octets ⊎ IsBest routes octets None
IsRoute routes octets (Some peer) = (¬ IsLocal octets) × IsBest routes octets (Some peer)

-- The answer is the peer of the route with exactly this prefix, and none where there is no such route.
abbrev pub IsPeerOf : List Route → List ℕ → Option ℕ → Type 0
IsPeerOf routes prefix None = ¬ Contains (prefixes routes) prefix
IsPeerOf routes prefix (Some peer) = Contains routes (record { prefix = prefix; peer = peer })

-- No two routes have the same prefix, and no prefix is longer than that many octets.
pub record AreIndexed (routes : List Route) (longest : ℕ) : Type 0 where
  pub distinct : AreDistinct routes
  pub within : All (λ route. length route.prefix ≤ longest) routes
