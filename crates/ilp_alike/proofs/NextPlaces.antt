-- Where the peers of a book stand in the next configuration.
use Rattle.std.proofs.Common.{◌≡◌, ◌⊎◌, ℕ, ◌<◌, Bool, true, false, List, [], map, length, get_or, Option, Some, None, inl, inr, refl, sym, ap, ◌∙◌, arith, slice_get, option_map, option_and_then, unwrap_or, ◌==◌}
use Rattle.std.specs.Str.{bytes_eq}
use Rattle.std.proofs.lemmas.Bool.{cases_order, eq-eqb, ne_eqb, eqb-true, eqb-false}
use Rattle.std.proofs.lemmas.List.Quantifiers.{position-Some}
use Rattle.std.proofs.lemmas.Option.{slice_get-map, slice_get_within, get_or_from_slice_get}
use Rattle.std.proofs.lemmas.Slice.Eq.{bytes_eq-Decides}
use Rattle.ilp_order.proofs.RefusalLemmas.{some_same}
use Rattle.ilp_accounts.specs.Configuration.{Configuration, peer_names, place_named}
use Rattle.ilp_accounts.specs.Valid.{AreDistinct}
use Rattle.ilp_journal.specs.Journal.{is_number}
use Rattle.ilp_journal.specs.BroughtForward.{EarlierPlaces, next_place, earlier_place}
use Rattle.ilp_journal.proofs.Heads.{next_stands, next_is, next_is_none}
use Rattle.ilp_rules.specs.Configured.{IsKnown}
use Rattle.ilp_rules.proofs.KeptOnce.{none_passes}
use Rattle.ilp_next_period.specs.NextPeriod.{places_by_name}
use Rattle.ilp_alike.specs.Alike.{place_there}

module _ (names texts : List (List ℕ)) (distinct : AreDistinct texts) where
  abbrev places : EarlierPlaces
  places = map (place_named names) texts

  -- the text that stands at a place where p is listed is the name at p
  named_at : (q p : ℕ) → slice_get places q ≡ Some (Some p) → slice_get texts q ≡ Some (get_or names p [])
  named_at q p is = of (slice_get texts q) refl (sym (slice_get-map (place_named names) texts q) ∙ is)
    where
      of : (o : Option (List ℕ)) → slice_get texts q ≡ o → option_map (place_named names) o ≡ Some (Some p) → slice_get texts q ≡ Some (get_or names p [])
      of None stands e = absurd cc
      of (Some text) stands e =
          let first = position-Some (bytes_eq text) names p [] (some_same (place_named names text) (Some p) e) in
          stands ∙ ap Some ((bytes_eq-Decides text (get_or names p [])).0 first.1)

  one_place : (text : List ℕ) (i k : ℕ) → slice_get texts i ≡ Some text → slice_get texts k ≡ Some text → i ≡ k
  one_place text i k at_i at_k = by (cases_order i k)
    where
      both : (m n : ℕ) → slice_get texts m ≡ Some text → slice_get texts n ≡ Some text → m < n → ⊥
      both m n at_m at_n before =
          distinct m n text before (slice_get_within texts n text at_n) (get_or_from_slice_get texts m text text at_m ∙ sym (get_or_from_slice_get texts n text text at_n))

      by : (i ≡ k) ⊎ ((i < k) ⊎ (k < i)) → i ≡ k
      by (inl same) = same
      by (inr (inl before)) = absurd (both i k at_i at_k before)
      by (inr (inr after)) = absurd (both k i at_k at_i after)

  -- so whoever comes from a place has one place there
  comes_once : (q p : ℕ) → slice_get places q ≡ Some (Some p) → next_place places p ≡ Some q
  comes_once q p is = of (next_place places p) refl
    where
      of : (o : Option ℕ) → next_place places p ≡ o → o ≡ Some q
      of None none =
          let fails : is_number p (Some p) ≡ false = none_passes (λ (old : Option ℕ). is_number p old) 0 places none q (Some p) is in
          let passes : (p == p) ≡ true = eq-eqb p p refl in
          cc
      of (Some k) there = ap Some (one_place (get_or names p []) k q (named_at k p (next_stands places p k there)) (named_at q p is))

module _ (C next : Configuration) (distinct : AreDistinct (peer_names next.peers)) (q : ℕ) (known : IsKnown next q) where
  abbrev by_name : EarlierPlaces
  by_name = places_by_name C next

  pub comes_from : (p : ℕ) → earlier_place by_name q ≡ Some p → next_place by_name p ≡ Some q
  comes_from p is = comes_once (peer_names C.peers) (peer_names next.peers) distinct q p (of (slice_get by_name q) is)
    where
      of : (o : Option (Option ℕ)) → option_and_then (λ (old : Option ℕ). old) o ≡ Some p → o ≡ Some (Some p)
      of None e = absurd cc
      of (Some old) e = ap Some e

  -- a peer comes to the place just where it is listed there
  there_is : (r : ℕ) → (place_there C next r == q) ≡ is_number q (next_place by_name r)
  there_is r = of (next_place by_name r)
    where
      of : (o : Option ℕ) → (unwrap_or o (length next.peers) == q) ≡ is_number q o
      of None = ne_eqb (length next.peers) q (λ same. omega (arith, same, known))
      of (Some k) = by (q == k) refl
        where
          by : (b : Bool) → (q == k) ≡ b → (k == q) ≡ b
          by true is = eq-eqb k q (sym (eqb-true q k is))
          by false is = ne_eqb k q (λ same. eqb-false q k is (sym same))

  -- so it is the one of the same name
  pub same_there : (p : ℕ) → earlier_place by_name q ≡ Some p → (r : ℕ) → (place_there C next r == q) ≡ (r == p)
  same_there p is r = there_is r ∙ next_is by_name p q r (comes_from p is)

  -- or nobody
  pub nobody_there : earlier_place by_name q ≡ None → (r : ℕ) → (place_there C next r == q) ≡ false
  nobody_there none r = there_is r ∙ next_is_none by_name q r none

  -- whoever comes there is listed there
  pub listed_there : (r : ℕ) → place_there C next r ≡ q → next_place by_name r ≡ Some q
  listed_there r same = of (next_place by_name r) same
    where
      of : (o : Option ℕ) → unwrap_or o (length next.peers) ≡ q → o ≡ Some q
      of None e = absurd (omega (arith, e, known))
      of (Some k) e = ap Some e
