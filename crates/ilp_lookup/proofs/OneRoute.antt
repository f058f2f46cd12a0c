-- Octets have one route, and a text has one place.
use Rattle.std.proofs.Common.{◌≡◌, ◌⊎◌, ℕ, ◌<◌, ◌≤◌, List, length, get_or, take, Option, Some, None, refl, ap, sym, ◌∙◌, arith, Contains, inl, inr}
use Rattle.std.specs.List.{slice_get}
use Rattle.std.proofs.lemmas.Bool.{cases_order}
use Rattle.std.proofs.lemmas.List.{length-map, get_or-map, get_or_default}
use Rattle.std.proofs.lemmas.List.Elements.{All-contains}
use Rattle.std.proofs.lemmas.Option.{slice_get_within, get_or_from_slice_get}
use Rattle.ilp_lookup.specs.Route.{Route, prefixes, AreDistinct, Matches, IsLongest, IsBest, IsRoute}
use Rattle.ilp_lookup.specs.Texts.{IsPlaceOf}
use Rattle.ilp_lookup.proofs.Longest.{Matches-take}

-- two prefixes of one length that match are the octets as far as that length
pub one-match : (prefix other octets : List ℕ) → Matches prefix octets → Matches other octets → length prefix ≡ length other → prefix ≡ other
one-match prefix other octets matched also long =
    sym (Matches-take prefix octets matched) ∙ ap (λ n. take n octets) long ∙ Matches-take other octets also

-- of two places with the same prefix there is one, where prefixes are distinct
one-index : (routes : List Route) → AreDistinct routes → (i j : ℕ) (r s : Route) → i < length routes → j < length routes → get_or routes i r ≡ r → get_or routes j s ≡ s → r.prefix ≡ s.prefix → i ≡ j
one-index routes distinct i j r s inside also at_i at_j same = by (cases_order i j)
  where
    prefix_at : (k : ℕ) (t : Route) → k < length routes → get_or routes k t ≡ t → get_or (prefixes routes) k r.prefix ≡ t.prefix
    prefix_at k t within at_k = get_or-map (λ u. u.prefix) routes k t r.prefix within ∙ ap (λ u. u.prefix) at_k

    long : length (prefixes routes) ≡ length routes
    long = length-map routes (λ u. u.prefix)

    by : (i ≡ j) ⊎ ((i < j) ⊎ (j < i)) → i ≡ j
    by (inl equal) = equal
    by (inr (inl before)) = absurd (distinct i j r.prefix before (omega (arith, long, also)) (prefix_at i r inside at_i ∙ same ∙ sym (prefix_at j s also at_j)))
    by (inr (inr after)) = absurd (distinct j i r.prefix after (omega (arith, long, inside)) (prefix_at j s also at_j ∙ sym same ∙ sym (prefix_at i r inside at_i)))

-- two longest routes have the same peer
one-best : (routes : List Route) → AreDistinct routes → (octets : List ℕ) (r s : Route) → IsLongest routes octets r → IsLongest routes octets s → r.peer ≡ s.peer
one-best routes distinct octets r s best also = ap (λ u. u.peer) same_route
  where
    no_longer : length r.prefix ≤ length s.prefix
    no_longer = All-contains (λ other. Matches other.prefix octets → length other.prefix ≤ length s.prefix) routes r also.longest best.configured best.matching

    no_shorter : length s.prefix ≤ length r.prefix
    no_shorter = All-contains (λ other. Matches other.prefix octets → length other.prefix ≤ length r.prefix) routes s best.longest also.configured also.matching

    same : r.prefix ≡ s.prefix
    same = one-match r.prefix s.prefix octets best.matching also.matching (omega (arith, no_longer, no_shorter))

    index : best.configured.0 ≡ also.configured.0
    index = one-index routes distinct best.configured.0 also.configured.0 r s best.configured.1 also.configured.1 best.configured.2 also.configured.2 same

    same_route : r ≡ s
    same_route = sym best.configured.2 ∙ get_or_default routes best.configured.0 r s best.configured.1 ∙ ap (λ k. get_or routes k s) index ∙ also.configured.2

-- where no prefix matches, no route is the longest
no-best : (routes : List Route) (octets : List ℕ) → IsBest routes octets None → (r : Route) → IsLongest routes octets r → ⊥
no-best routes octets none r best = All-contains (λ other. ¬ Matches other.prefix octets) routes r none best.configured best.matching

-- octets have one route
pub one-route : (routes : List Route) → AreDistinct routes → (octets : List ℕ) (answer other : Option ℕ) → IsRoute routes octets answer → IsRoute routes octets other → answer ≡ other
one-route routes distinct octets None None h k = refl
one-route routes distinct octets None (Some peer) (inl local) k = absurd (k.0 local)
one-route routes distinct octets None (Some peer) (inr none) k = absurd (no-best routes octets none k.1.0 k.1.1)
one-route routes distinct octets (Some peer) None h (inl local) = absurd (h.0 local)
one-route routes distinct octets (Some peer) None h (inr none) = absurd (no-best routes octets none h.1.0 h.1.1)
one-route routes distinct octets (Some peer) (Some other) h k = ap Some (sym h.1.2 ∙ one-best routes distinct octets h.1.0 k.1.0 h.1.1 k.1.1 ∙ k.1.2)

-- a text that stands at a place is among the texts
stands : (texts : List (List ℕ)) (text : List ℕ) (place : ℕ) → slice_get texts place ≡ Some text → Contains texts text
stands texts text place there = (place, slice_get_within texts place text there, get_or_from_slice_get texts place text text there)

-- a text has one place
pub one-answer : (texts : List (List ℕ)) (text : List ℕ) (answer other : Option ℕ) → IsPlaceOf texts text answer → IsPlaceOf texts text other → answer ≡ other
one-answer texts text None None h k = refl
one-answer texts text None (Some place) none k = absurd (none (stands texts text place k.0))
one-answer texts text (Some place) None h none = absurd (none (stands texts text place h.0))
one-answer texts text (Some place) (Some other) h k = ap Some (k.1 place h.0)
