-- The route that a look-up of its prefix finds.
use Rattle.std.proofs.Common.{◌≡◌, ◌≢◌, ℕ, suc, Bool, true, false, cond, List, [], ◌∷◌, ◌++◌, map, Option, Some, None, refl, ap, sym, ◌∙◌, arith, Contains, if◌then◌else◌}
use Rattle.std.specs.List.{AllZip}
use Rattle.std.specs.Map.{lookup, keys_of}
use Rattle.std.specs.Option.{is_some}
use Rattle.std.specs.Str.{bytes_eq}
use Rattle.std.proofs.lemmas.Bool.{false≢true}
use Rattle.std.proofs.lemmas.Map.Made.{Contains-tail}
use Rattle.std.proofs.lemmas.Slice.Eq.{bytes_eq-Decides}
use Rattle.indexmap.specs.IndexMap.{insert_entry}
use Rattle.ilp_lookup.specs.Route.{Route, prefixes, IsPeerOf}
use Rattle.ilp_lookup.proofs.Keys.{Contains-map}

module _ {X : Type 0} (text_of : X → List ℕ) where
  -- the routes that entries stand for
  abbrev pub routes_of : List (X × ℕ) → List Route
  routes_of entries = map (λ e. record { prefix = text_of e.0; peer = e.1 }) entries

  -- what a look-up finds is the peer of the route with that prefix
  pub IsPeerOf-lookup : (prefix : List ℕ) (entries : List (X × ℕ)) → IsPeerOf (routes_of entries) prefix (lookup (λ k. bytes_eq prefix (text_of k)) entries)
  IsPeerOf-lookup prefix [] = λ there. omega (arith, there.1)
  IsPeerOf-lookup prefix (e ∷ entries) = by (IsPeerOf-lookup prefix entries) (bytes_eq prefix (text_of e.0)) refl
    where
      skip : (answer : Option ℕ) → (prefix ≢ text_of e.0) → IsPeerOf (routes_of entries) prefix answer → IsPeerOf (routes_of (e ∷ entries)) prefix answer
      skip None other none = λ there. none (Contains-tail (text_of e.0) (prefixes (routes_of entries)) prefix (λ same. other (sym same)) there)
      skip (Some peer) other there = (suc there.0, omega (arith, there.1), there.2)

      by : IsPeerOf (routes_of entries) prefix (lookup (λ k. bytes_eq prefix (text_of k)) entries) → (b : Bool) → bytes_eq prefix (text_of e.0) ≡ b → IsPeerOf (routes_of (e ∷ entries)) prefix (cond b (Some e.1) (lookup (λ k. bytes_eq prefix (text_of k)) entries))
      by found true is = (0, omega arith, ap (λ p. record { prefix = p; peer = e.1 }) (sym ((bytes_eq-Decides prefix (text_of e.0)).0 is)))
      by found false is = skip (lookup (λ k. bytes_eq prefix (text_of k)) entries) (λ same. false≢true (sym is ∙ (bytes_eq-Decides prefix (text_of e.0)).1 same)) found

  -- the prefixes of the routes are the texts of the keys
  pub prefixes-routes : (entries : List (X × ℕ)) → prefixes (routes_of entries) ≡ map text_of (keys_of entries)
  prefixes-routes [] = refl
  prefixes-routes (e ∷ entries) = ap (λ ps. text_of e.0 ∷ ps) (prefixes-routes entries)

  -- a new prefix goes last
  pub insert_entry-routes : (entries : List (X × ℕ)) (key : X) (peer : ℕ) → ¬ Contains (prefixes (routes_of entries)) (text_of key)
      → routes_of (insert_entry (λ j k. bytes_eq (text_of j) (text_of k)) entries key peer) ≡ routes_of entries ++ record { prefix = text_of key; peer = peer } ∷ []
  insert_entry-routes [] key peer new = refl
  insert_entry-routes (e ∷ entries) key peer new = by (insert_entry-routes entries key peer) (bytes_eq (text_of key) (text_of e.0)) refl
    where
      rest : ¬ Contains (prefixes (routes_of entries)) (text_of key)
      rest there = new (suc there.0, omega (arith, there.1), there.2)

      by : (¬ Contains (prefixes (routes_of entries)) (text_of key) → routes_of (insert_entry (λ j k. bytes_eq (text_of j) (text_of k)) entries key peer) ≡ routes_of entries ++ record { prefix = text_of key; peer = peer } ∷ [])
          → (b : Bool) → bytes_eq (text_of key) (text_of e.0) ≡ b → routes_of (if b then (e.0, peer) ∷ entries else e ∷ insert_entry (λ j k. bytes_eq (text_of j) (text_of k)) entries key peer) ≡ routes_of (e ∷ entries) ++ record { prefix = text_of key; peer = peer } ∷ []
      by later true is = absurd (new (0, omega arith, sym ((bytes_eq-Decides (text_of key) (text_of e.0)).0 is)))
      by later false is = ap (λ rs. record { prefix = text_of e.0; peer = e.1 } ∷ rs) (later rest)

  -- entries, each of which has the prefix and the peer of the other's, stand for the same routes
  pub same-routes : (R : X × ℕ → X × ℕ → Type 0) → ((x y : X × ℕ) → R x y → (text_of y.0 ≡ text_of x.0) × (y.1 ≡ x.1)) → (xs ys : List (X × ℕ)) → AllZip R xs ys → routes_of ys ≡ routes_of xs
  same-routes R same [] [] h = refl
  same-routes R same [] (y ∷ ys) h = absurd h
  same-routes R same (x ∷ xs) [] h = absurd h
  same-routes R same (x ∷ xs) (y ∷ ys) h = λ i. record { prefix = (same x y h.0).0 i; peer = (same x y h.0).1 i } ∷ same-routes R same xs ys h.1 i

-- a look-up has an answer exactly where a route has the prefix
pub found-prefix : (routes : List Route) (prefix : List ℕ) (answer : Option ℕ) → IsPeerOf routes prefix answer → is_some answer ≡ true → Contains (prefixes routes) prefix
found-prefix routes prefix None h there = absurd (false≢true there)
found-prefix routes prefix (Some peer) h there = Contains-map (λ r. r.prefix) routes (record { prefix = prefix; peer = peer }) h

pub prefix-found : (routes : List Route) (prefix : List ℕ) (answer : Option ℕ) → IsPeerOf routes prefix answer → Contains (prefixes routes) prefix → is_some answer ≡ true
prefix-found routes prefix None none there = absurd (none there)
prefix-found routes prefix (Some peer) h there = refl
