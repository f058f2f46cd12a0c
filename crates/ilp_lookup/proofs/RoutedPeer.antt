-- The computed route is a route of the octets.
use Rattle.std.proofs.Common.{◌≡◌, ℕ, suc, ◌≤◌, Bool, true, false, List, [], ◌∷◌, ◌++◌, length, drop, Option, Some, None, refl, sym, ◌∙◌, arith, All, Contains, inl, inr, append_assoc, if◌then◌else◌}
use Rattle.std.specs.Prelude.{codes, bytes_eq, option_map, nat_le}
use Rattle.std.proofs.lemmas.Bool.{false≢true}
use Rattle.std.proofs.lemmas.Bool.Decides.{Decides-eqb, nat_tests}
use Rattle.std.proofs.lemmas.List.Elements.{All-cons, All-nil, All-weaker}
use Rattle.std.proofs.lemmas.Slice.Eq.{bytes_eq-Decides, starts_is}
use Rattle.ilp_lookup.specs.Route.{Route, Matches, IsLongest, IsLocal, IsRoute}
use Rattle.ilp_lookup.specs.Answer.{begins, matches, longer, longest_of, routed_peer}

-- octets that begin with others are these and a rest
begins-yes : (octets first : List ℕ) → begins octets first ≡ true → octets ≡ first ++ drop (length first) octets
begins-yes octets first is_so = (starts_is Decides-eqb octets first (begins octets first) refl).0 is_so

begins-with : (octets first rest : List ℕ) → octets ≡ first ++ rest → begins octets first ≡ true
begins-with octets first rest is = (starts_is Decides-eqb octets first (begins octets first) refl).1 rest is

-- a prefix that is found to match does
matches-yes : (prefix octets : List ℕ) → matches prefix octets ≡ true → Matches prefix octets
matches-yes [] octets is_so = inl refl
matches-yes (p ∷ ps) octets is_so = by (bytes_eq octets (p ∷ ps)) refl (begins octets ((p ∷ ps) ++ 46 ∷ [])) refl
  where
    by : (whole : Bool) → bytes_eq octets (p ∷ ps) ≡ whole → (front : Bool) → begins octets ((p ∷ ps) ++ 46 ∷ []) ≡ front → Matches (p ∷ ps) octets
    by true is front _ = inr (inl ((bytes_eq-Decides octets (p ∷ ps)).0 is))
    by false is true starts = inr (inr (_, begins-yes octets ((p ∷ ps) ++ 46 ∷ []) starts ∙ append_assoc (p ∷ ps) (46 ∷ []) _))
    by false is false starts = absurd (grind (arith, is_so, is, starts))

-- a prefix that is not found to match does not
matches-no : (prefix octets : List ℕ) → matches prefix octets ≡ false → ¬ Matches prefix octets
matches-no [] octets is_not matched = false≢true (sym is_not)
matches-no (p ∷ ps) octets is_not (inl empty) = absurd cc
matches-no (p ∷ ps) octets is_not (inr (inl same)) = let is_so = (bytes_eq-Decides octets (p ∷ ps)).1 same in absurd (grind (arith, is_not, is_so))
matches-no (p ∷ ps) octets is_not (inr (inr (rest, is))) =
    let is_so = begins-with octets ((p ∷ ps) ++ 46 ∷ []) rest (is ∙ sym (append_assoc (p ∷ ps) (46 ∷ []) rest)) in absurd (grind (arith, is_not, is_so))

-- the longest route that matches, or that none does
abbrev pub IsFound : List Route → List ℕ → Option Route → Type 0
IsFound routes octets None = All (λ route. ¬ Matches route.prefix octets) routes
IsFound routes octets (Some route) = IsLongest routes octets route

first_contained : (route : Route) (routes : List Route) → Contains (route ∷ routes) route
first_contained route routes = (0, omega arith, refl)

later_contained : (route other : Route) (routes : List Route) → Contains routes other → Contains (route ∷ routes) other
later_contained route other routes there = (suc there.0, omega (arith, there.1), there.2)

-- a route that does not match changes nothing
skipped : (route : Route) (routes : List Route) (octets : List ℕ) (found : Option Route) → ¬ Matches route.prefix octets → IsFound routes octets found → IsFound (route ∷ routes) octets found
skipped route routes octets None other none = All-cons (λ r. ¬ Matches r.prefix octets) route routes other none
skipped route routes octets (Some best) other found = record {
  configured = later_contained route best routes found.configured;
  matching = found.matching;
  longest = All-cons (λ r. Matches r.prefix octets → length r.prefix ≤ length best.prefix) route routes (λ matched. absurd (other matched)) found.longest;
}

-- of a route that matches and the longest of the others, the longer is the longest of all
taken : (route : Route) (routes : List Route) (octets : List ℕ) (found : Option Route) → Matches route.prefix octets → IsFound routes octets found → IsLongest (route ∷ routes) octets (longer route found)
taken route routes octets None matched none = record {
  configured = first_contained route routes;
  matching = matched;
  longest = All-cons (λ r. Matches r.prefix octets → length r.prefix ≤ length route.prefix) route routes (λ _. omega arith)
      (All-weaker (λ r. ¬ Matches r.prefix octets) (λ r. Matches r.prefix octets → length r.prefix ≤ length route.prefix) (λ r is_not is_so. absurd (is_not is_so)) routes none);
}
taken route routes octets (Some best) matched found = by (nat_le (length best.prefix) (length route.prefix)) refl
  where
    by : (b : Bool) → nat_le (length best.prefix) (length route.prefix) ≡ b → IsLongest (route ∷ routes) octets (if b then route else best)
    by true is =
        let less : length best.prefix ≤ length route.prefix = grind (arith, nat_tests, is) in
        record {
          configured = first_contained route routes;
          matching = matched;
          longest = All-cons (λ r. Matches r.prefix octets → length r.prefix ≤ length route.prefix) route routes (λ _. omega arith)
              (All-weaker (λ r. Matches r.prefix octets → length r.prefix ≤ length best.prefix) (λ r. Matches r.prefix octets → length r.prefix ≤ length route.prefix)
              (λ r within is_so. let short = within is_so in omega (arith, short, less)) routes found.longest);
        }
    by false is =
        let less : length route.prefix ≤ length best.prefix = grind (arith, nat_tests, is) in
        record {
          configured = later_contained route best routes found.configured;
          matching = found.matching;
          longest = All-cons (λ r. Matches r.prefix octets → length r.prefix ≤ length best.prefix) route routes (λ _. less) found.longest;
        }

IsFound-longest_of : (routes : List Route) (octets : List ℕ) → IsFound routes octets (longest_of routes octets)
IsFound-longest_of [] octets = All-nil (λ route. ¬ Matches route.prefix octets)
IsFound-longest_of (route ∷ routes) octets = by (matches route.prefix octets) refl (IsFound-longest_of routes octets)
  where
    by : (b : Bool) → matches route.prefix octets ≡ b → IsFound routes octets (longest_of routes octets)
        → IsFound (route ∷ routes) octets (if b then Some (longer route (longest_of routes octets)) else longest_of routes octets)
    by true is found = taken route routes octets (longest_of routes octets) (matches-yes route.prefix octets is) found
    by false is found = skipped route routes octets (longest_of routes octets) (matches-no route.prefix octets is) found

-- the longest route gives the answer where the scheme is another
answered : (routes : List Route) (octets : List ℕ) (found : Option Route) → ¬ IsLocal octets → IsFound routes octets found → IsRoute routes octets (option_map (λ route. route.peer) found)
answered routes octets None other none = inr none
answered routes octets (Some route) other found = (other, (route, found, refl))

pub IsRoute-routed_peer : (routes : List Route) (octets : List ℕ) → IsRoute routes octets (routed_peer routes octets)
unfolding routed_peer
IsRoute-routed_peer routes octets = by (begins octets (codes "peer.")) refl
  where
    by : (b : Bool) → begins octets (codes "peer.") ≡ b → IsRoute routes octets (if b then None else option_map (λ route. route.peer) (longest_of routes octets))
    by true is = inl (_, begins-yes octets (codes "peer.") is)
    by false is = answered routes octets (longest_of routes octets) (λ there. false≢true (sym is ∙ begins-with octets (codes "peer.") there.0 there.1)) (IsFound-longest_of routes octets)
