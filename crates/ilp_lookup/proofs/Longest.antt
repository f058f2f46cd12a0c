-- The longest prefix that matches, looked for from the last dot to the first.
use Rattle.std.proofs.Common.{◌≡◌, ◌≢◌, ◌⊎◌, ℕ, suc, ◌+◌, ◌<◌, ◌≤◌, List, [], ◌∷◌, ◌++◌, length, get_or, take, drop, Option, Some, None, refl, ap, sym, ◌∙◌, arith, All, Contains, inl, inr, subst}
use Rattle.std.proofs.Math.Seq.{get_or-append_seam, take-append_seam, take-length, split_at}
use Rattle.std.proofs.lemmas.Bool.{cases_order}
use Rattle.std.proofs.lemmas.List.{length-append, length-take-le}
use Rattle.std.proofs.lemmas.List.Elements.{All-weaker, All-contains_itself}
use Rattle.ilp_lookup.specs.Route.{Route, prefixes, Matches, IsBest, IsPeerOf}
use Rattle.ilp_lookup.proofs.Keys.{Contains-map}

-- each prefix that matches is empty or shorter than n
abbrev pub AreShorter : List Route → List ℕ → ℕ → Type 0
AreShorter routes octets n = (route : Route) → Contains routes route → Matches route.prefix octets → (route.prefix ≡ []) ⊎ (length route.prefix < n)

-- what holds of each route that the list contains holds of all
every : (P : Route → Type 0) (routes : List Route) → ((route : Route) → Contains routes route → P route) → All P routes
every P routes holds = All-weaker (Contains routes) P holds routes (All-contains_itself routes)

-- octets that begin with a prefix are as long as it, and what follows
length-followed : (prefix octets rest : List ℕ) → octets ≡ prefix ++ 46 ∷ rest → length prefix < length octets
length-followed prefix octets rest is = let long : length octets ≡ length prefix + length (46 ∷ rest) = ap length is ∙ length-append prefix (46 ∷ rest) in omega (arith, long)

-- a prefix that matches is no longer than the octets
Matches-within : (prefix octets : List ℕ) → Matches prefix octets → length prefix ≤ length octets
Matches-within prefix octets (inl empty) = rw empty (omega arith)
Matches-within prefix octets (inr (inl same)) = rw same (omega arith)
Matches-within prefix octets (inr (inr (rest, is))) = let less = length-followed prefix octets rest is in omega (arith, less)

-- a prefix that matches is the octets as far as its length
pub Matches-take : (prefix octets : List ℕ) → Matches prefix octets → take (length prefix) octets ≡ prefix
Matches-take prefix octets (inl empty) = rw empty refl
Matches-take prefix octets (inr (inl same)) = ap (take (length prefix)) same ∙ take-length prefix
Matches-take prefix octets (inr (inr (rest, is))) = ap (take (length prefix)) is ∙ take-append_seam prefix (46 ∷ rest)

-- where no prefix is the octets, all that match are shorter
pub AreShorter-none : (routes : List Route) (octets : List ℕ) → IsPeerOf routes octets None → AreShorter routes octets (length octets)
AreShorter-none routes octets none route there (inl empty) = inl empty
AreShorter-none routes octets none route there (inr (inl same)) = absurd (none (subst (Contains (prefixes routes)) (sym same) (Contains-map (λ r. r.prefix) routes route there)))
AreShorter-none routes octets none route there (inr (inr (rest, is))) = inr (length-followed route.prefix octets rest is)

-- a prefix of the length n that matches and is not all of the octets is followed by a dot
followed : (prefix octets : List ℕ) (n : ℕ) → n < length octets → Matches prefix octets → (prefix ≡ []) ⊎ (length prefix < n + 1)
    → ((length prefix ≡ n) → (get_or octets n 0 ≡ 46) → (take n octets ≡ prefix) → (prefix ≡ []) ⊎ (length prefix < n)) → (prefix ≡ []) ⊎ (length prefix < n)
followed prefix octets n inside matched (inl empty) at_dot = inl empty
followed prefix octets n inside (inl empty) (inr short) at_dot = inl empty
followed prefix octets n inside (inr (inl same)) (inr short) at_dot = let long : length octets ≡ length prefix = ap length same in absurd (omega (arith, long, short, inside))
followed prefix octets n inside (inr (inr (rest, is))) (inr short) at_dot = by (cases_order (length prefix) n)
  where
    dot : get_or octets (length prefix) 0 ≡ 46
    dot = ap (λ l. get_or l (length prefix) 0) is ∙ get_or-append_seam prefix 46 rest 0

    by : (length prefix ≡ n) ⊎ ((length prefix < n) ⊎ (n < length prefix)) → (prefix ≡ []) ⊎ (length prefix < n)
    by (inl same) = at_dot same (ap (λ k. get_or octets k 0) (sym same) ∙ dot) (ap (λ k. take k octets) (sym same) ∙ Matches-take prefix octets (inr (inr (rest, is))))
    by (inr (inl less)) = inr less
    by (inr (inr more)) = absurd (omega (arith, short, more))

-- no prefix ends where no dot follows
pub AreShorter-no_dot : (routes : List Route) (octets : List ℕ) (n : ℕ) → n < length octets → get_or octets n 0 ≢ 46 → AreShorter routes octets (n + 1) → AreShorter routes octets n
AreShorter-no_dot routes octets n inside no_dot shorter route there matched =
    followed route.prefix octets n inside matched (shorter route there matched) (λ _ dot _. absurd (no_dot dot))

-- no prefix of the length n is left where none is the octets as far as n
pub AreShorter-cut : (routes : List Route) (octets : List ℕ) (n : ℕ) → n < length octets → IsPeerOf routes (take n octets) None → AreShorter routes octets (n + 1) → AreShorter routes octets n
AreShorter-cut routes octets n inside none shorter route there matched =
    followed route.prefix octets n inside matched (shorter route there matched)
    (λ _ _ cut. absurd (none (subst (Contains (prefixes routes)) (sym cut) (Contains-map (λ r. r.prefix) routes route there))))

-- the route of the octets themselves is the longest
pub IsBest-whole : (routes : List Route) (octets : List ℕ) (peer : ℕ) → IsPeerOf routes octets (Some peer) → IsBest routes octets (Some peer)
IsBest-whole routes octets peer there = (
  record { prefix = octets; peer = peer },
  record {
    configured = there;
    matching = inr (inl refl);
    longest = every (λ other. Matches other.prefix octets → length other.prefix ≤ length octets) routes (λ other _ matched. Matches-within other.prefix octets matched);
  },
  refl,
)

-- a route that ends before a dot is the longest where all that match are no longer
pub IsBest-cut : (routes : List Route) (octets : List ℕ) (n peer : ℕ) → n < length octets → get_or octets n 0 ≡ 46 → AreShorter routes octets (n + 1) → IsPeerOf routes (take n octets) (Some peer) → IsBest routes octets (Some peer)
IsBest-cut routes octets n peer inside dot shorter there = (
  record { prefix = take n octets; peer = peer },
  record {
    configured = there;
    matching = inr (inr (drop (suc n) octets, split_at octets n 0 inside ∙ ap (λ d. take n octets ++ d ∷ drop (suc n) octets) dot));
    longest = every (λ other. Matches other.prefix octets → length other.prefix ≤ length (take n octets)) routes within;
  },
  refl,
)
  where
    short : (prefix : List ℕ) → (prefix ≡ []) ⊎ (length prefix < n + 1) → length prefix ≤ length (take n octets)
    short prefix (inl empty) = rw empty (omega arith)
    short prefix (inr less) = let long : length (take n octets) ≡ n = length-take-le n octets (omega (arith, inside)) in omega (arith, long, less)

    within : (other : Route) → Contains routes other → Matches other.prefix octets → length other.prefix ≤ length (take n octets)
    within other configured matched = short other.prefix (shorter other configured matched)

-- where only the empty prefix may match, its route is the answer
pub IsBest-empty : (routes : List Route) (octets : List ℕ) (answer : Option ℕ) → AreShorter routes octets 0 → IsPeerOf routes [] answer → IsBest routes octets answer
IsBest-empty routes octets answer shorter = by answer
  where
    empty : (prefix : List ℕ) → (prefix ≡ []) ⊎ (length prefix < 0) → prefix ≡ []
    empty prefix (inl is) = is
    empty prefix (inr less) = absurd (omega (arith, less))

    by : (answer : Option ℕ) → IsPeerOf routes [] answer → IsBest routes octets answer
    by None none = every (λ route. ¬ Matches route.prefix octets) routes (λ route there matched. none (subst (Contains (prefixes routes)) (empty route.prefix (shorter route there matched)) (Contains-map (λ r. r.prefix) routes route there)))
    by (Some peer) there = (
      record { prefix = []; peer = peer },
      record {
        configured = there;
        matching = inl refl;
        longest = every (λ other. Matches other.prefix octets → length other.prefix ≤ 0) routes (λ other configured matched. rw (empty other.prefix (shorter other configured matched)) (omega arith));
      },
      refl,
    )
