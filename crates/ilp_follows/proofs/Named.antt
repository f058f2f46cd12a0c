-- Peers of two configurations are the same by their names, as they are in a next period.
use Rattle.std.proofs.Common.{◌≡◌, ◌⊎◌, ℕ, ◌+◌, ◌<◌, ◌≤◌, Bool, true, false, cond, List, [], ◌∷◌, map, length, get_or, Option, Some, None, refl, sym, ap, ◌∙◌, arith, inl, inr, slice_get, option_map, option_and_then, unwrap_or, ◌==◌}
use Rattle.std.specs.List.{position_from}
use Rattle.std.specs.Str.{bytes_eq}
use Rattle.std.proofs.lemmas.Bool.{cases_order, eq-eqb, eqb-true}
use Rattle.std.proofs.lemmas.List.{length-map}
use Rattle.std.proofs.lemmas.Iterator.Adapters.{position_from-zero}
use Rattle.std.proofs.lemmas.List.Quantifiers.{position-Some}
use Rattle.std.proofs.lemmas.Option.{slice_get-map, slice_get-get_or, slice_get_within, get_or_from_slice_get, unwrap_or-slice_get}
use Rattle.std.proofs.lemmas.Slice.Eq.{bytes_eq-Decides}
use Rattle.ilp_lookup.specs.Texts.{IsPlaceOf}
use Rattle.ilp_accounts.specs.Configuration.{Configuration, PlainPeer, nobody, peer_at, peer_names, place_named}
use Rattle.ilp_accounts.specs.Valid.{IsValid, AreDistinct}
use Rattle.ilp_accounts.proofs.Lookups.{placed}
use Rattle.ilp_order.specs.Places.{first_from}
use Rattle.ilp_journal.specs.Journal.{is_number}
use Rattle.ilp_journal.specs.BroughtForward.{next_place, earlier_place}
use Rattle.ilp_rules.specs.Configured.{IsKnown}
use Rattle.std.specs.Prelude.{FitsSigned, ℤ, pos, negsuc, ◌+ℤ◌, ◌<ℤ◌, ◌≤ℤ◌, ◌^◌}
use Rattle.std.specs.Int.{w64}
use Rattle.std.proofs.lemmas.Int.{ints}
use Rattle.ilp_journal.specs.Balance.{balance}
use Rattle.ilp_rules.specs.Book.{PlainBook}
use Rattle.ilp_follows.specs.Follows.{MayHandOn}
use Rattle.ilp_next_period.specs.NextPeriod.{places_by_name, place_in_next}

-- ---- names

module _ (names : List (List ℕ)) (distinct : AreDistinct names) where
  -- a name that is placed stands there
  stands_placed : (name : List ℕ) (place : ℕ) → place_named names name ≡ Some place → slice_get names place ≡ Some name
  stands_placed name place is =
      let first = position-Some (bytes_eq name) names place name is in
      slice_get-get_or names place name first.0 ∙ ap Some (sym ((bytes_eq-Decides name (get_or names place name)).0 first.1))

  -- and nowhere else
  one_place : (name : List ℕ) (i k : ℕ) → slice_get names i ≡ Some name → slice_get names k ≡ Some name → i ≡ k
  one_place name i k at_i at_k = by (cases_order i k)
    where
      both : (m n : ℕ) → slice_get names m ≡ Some name → slice_get names n ≡ Some name → m < n → ⊥
      both m n at_m at_n before =
          distinct m n name before (slice_get_within names n name at_n) (get_or_from_slice_get names m name name at_m ∙ sym (get_or_from_slice_get names n name name at_n))

      by : (i ≡ k) ⊎ ((i < k) ⊎ (k < i)) → i ≡ k
      by (inl same) = same
      by (inr (inl before)) = absurd (both i k at_i at_k before)
      by (inr (inr after)) = absurd (both k i at_k at_i after)

  -- a name that stands is placed there
  placed_where : (name : List ℕ) (place : ℕ) → slice_get names place ≡ Some name → place_named names name ≡ Some place
  placed_where name place there = sym (placed names name (Some place) (there, λ other found. one_place name other place found there))

  module _ (p : ℕ) (name : List ℕ) (there : slice_get names p ≡ Some name) where
    -- it is placed where the name stands just where it is that name
    is_there : (text : List ℕ) → is_number p (place_named names text) ≡ bytes_eq name text
    is_there text = by (bytes_eq name text) refl
      where
        by : (b : Bool) → bytes_eq name text ≡ b → is_number p (place_named names text) ≡ b
        by true same = ap (λ (t : List ℕ). is_number p (place_named names t)) (sym ((bytes_eq-Decides name text).0 same)) ∙ ap (is_number p) (placed_where name p there) ∙ eq-eqb p p refl
        by false other = at (place_named names text) refl
          where
            at : (o : Option ℕ) → place_named names text ≡ o → is_number p o ≡ false
            at None is = refl
            at (Some q) is = test (p == q) refl
              where
                test : (b : Bool) → (p == q) ≡ b → b ≡ false
                test false is_q = refl
                test true is_q =
                    let same : Some name ≡ Some text = sym there ∙ ap (slice_get names) (eqb-true p q is_q) ∙ stands_placed text q is in
                    let alike : bytes_eq name text ≡ true = (bytes_eq-Decides name text).1 cc in cc

    -- so the place that the peer of a name has among others is that of its name
    first_there : (s : ℕ) (texts : List (List ℕ)) → first_from (λ _ (old : Option ℕ). is_number p old) s (map (place_named names) texts) ≡ position_from (bytes_eq name) s texts
    first_there s [] = refl
    first_there s (text ∷ texts) =
        ap (λ b. cond b (Some s) (first_from (λ _ (old : Option ℕ). is_number p old) (s + 1) (map (place_named names) texts))) (is_there text)
        ∙ ap (cond (bytes_eq name text) (Some s)) (first_there (s + 1) texts)

    next_by_name : (later : List (List ℕ)) → next_place (map (place_named names) later) p ≡ place_named later name
    next_by_name later = first_there 0 later ∙ sym (position_from-zero (bytes_eq name) later)

-- ---- peers

-- the name of a known peer stands among the names
name_stands : (C : Configuration) (p : ℕ) → IsKnown C p → slice_get (peer_names C.peers) p ≡ Some (peer_at C p).name
name_stands C p known =
    slice_get-map (λ (q : PlainPeer). q.name) C.peers p
    ∙ ap (option_map (λ (q : PlainPeer). q.name)) (slice_get-get_or C.peers p nobody known)
    ∙ ap (λ (q : PlainPeer). Some q.name) (sym (unwrap_or-slice_get C.peers p nobody))

-- a peer that stands among the names is known, and has the name
known_name : (C : Configuration) (p : ℕ) (name : List ℕ) → slice_get (peer_names C.peers) p ≡ Some name → IsKnown C p × ((peer_at C p).name ≡ name)
known_name C p name there = of (slice_get C.peers p) refl (sym (slice_get-map (λ (q : PlainPeer). q.name) C.peers p) ∙ there)
  where
    of : (o : Option PlainPeer) → slice_get C.peers p ≡ o → option_map (λ (q : PlainPeer). q.name) o ≡ Some name → IsKnown C p × ((peer_at C p).name ≡ name)
    of None is e = cc
    of (Some peer) is e =
        let same : peer.name ≡ name = cc in
        (slice_get_within C.peers p peer is, ap (λ (o : Option PlainPeer). (unwrap_or o nobody).name) is ∙ same)

-- the earlier place of a peer of the next configuration is where its name stands
pub earlier_of : (C next : Configuration) (q : ℕ) → IsKnown next q → earlier_place (places_by_name C next) q ≡ place_named (peer_names C.peers) (peer_at next q).name
earlier_of C next q known =
    ap (option_and_then (λ (old : Option ℕ). old))
    (slice_get-map (place_named (peer_names C.peers)) (peer_names next.peers) q ∙ ap (option_map (place_named (peer_names C.peers))) (name_stands next q known))

module _ (C next : Configuration) (valid : IsValid C) (later : IsValid next) where
  -- the place of a peer in the next configuration is that of its name
  pub placed_by_name : (p : ℕ) → IsKnown C p → place_in_next C next p ≡ place_named (peer_names next.peers) (peer_at C p).name
  placed_by_name p known = next_by_name (peer_names C.peers) valid.names p (peer_at C p).name (name_stands C p known) (peer_names next.peers)

  -- so it is what a look-up by the name answers
  pub looked_up : (p : ℕ) (answer : Option ℕ) → IsKnown C p → IsPlaceOf (peer_names next.peers) (peer_at C p).name answer → answer ≡ place_in_next C next p
  looked_up p answer known is = placed (peer_names next.peers) (peer_at C p).name answer is ∙ sym (placed_by_name p known)

  -- a peer of the next configuration that has the name has that place
  pub same_name : (p q : ℕ) → IsKnown C p → IsKnown next q → (peer_at C p).name ≡ (peer_at next q).name → place_in_next C next p ≡ Some q
  same_name p q known there same =
      placed_by_name p known ∙ placed_where (peer_names next.peers) later.names (peer_at C p).name q (name_stands next q there ∙ ap Some (sym same))

  -- whoever has an earlier place comes from there
  pub earlier_stands : (q p : ℕ) → IsKnown next q → earlier_place (places_by_name C next) q ≡ Some p → IsKnown C p × (place_in_next C next p ≡ Some q)
  earlier_stands q p known is =
      let there = known_name C p (peer_at next q).name (stands_placed (peer_names C.peers) valid.names (peer_at next q).name p (sym (earlier_of C next q known) ∙ is)) in
      (there.0, same_name p q there.0 known there.1)

-- a look-up by the name of a peer of the next configuration finds its earlier place
pub found_earlier : (C next : Configuration) (q : ℕ) (answer : Option ℕ) → IsKnown next q → IsPlaceOf (peer_names C.peers) (peer_at next q).name answer → answer ≡ earlier_place (places_by_name C next) q
found_earlier C next q answer known is = placed (peer_names C.peers) (peer_at next q).name answer is ∙ sym (earlier_of C next q known)

-- a number between bounds of 64 bits has 64 bits
fits_between : (b : ℤ) → pos 0 ≤ℤ (b +ℤ pos (2 ^ 63)) → b <ℤ pos (2 ^ 63) → FitsSigned w64 b
fits_between (pos n) low high = record { sfits = omega (arith, ints, high) }
fits_between (negsuc n) low high = record { sfits = omega (arith, ints, low) }

-- what may be told has 64 bits
pub balance_fits : (book : PlainBook) (next : Configuration) (q p : ℕ) → IsValid book.config → IsValid next → MayHandOn book next → IsKnown next q
    → earlier_place (places_by_name book.config next) q ≡ Some p → FitsSigned w64 (balance book.entries p)
balance_fits book next q p valid later may known is =
    let stands = earlier_stands book.config next valid later q p known is in
    let tells = may.peers p stands.0 in
    fits_between (balance book.entries p) (tells.low q stands.1) tells.told
