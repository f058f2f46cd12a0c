-- The place of a text among distinct texts.
use Rattle.std.proofs.Common.{◌≡◌, ◌≢◌, ◌⊎◌, ℕ, ◌<◌, false, List, get_or, map, Some, None, ap, sym, ◌∙◌, inl, inr}
use Rattle.std.specs.List.{position, slice_get, list_any, AllPairs}
use Rattle.std.specs.Str.{bytes_eq}
use Rattle.std.proofs.lemmas.Bool.{cases_order, false≢true}
use Rattle.std.proofs.lemmas.List.Quantifiers.{position-Some}
use Rattle.std.proofs.lemmas.Option.{slice_get-get_or, slice_get_within, get_or_from_slice_get}
use Rattle.std.proofs.lemmas.Slice.Eq.{bytes_eq-Decides}
use Rattle.ilp_lookup.specs.Texts.{IsPlaceOf}
use Rattle.ilp_lookup.proofs.Keys.{found-Contains, list_any-texts, position-texts}

-- among distinct texts, a text stands at one place
pub one-place : (texts : List (List ℕ)) → AllPairs (λ x y. x ≢ y) texts → (text : List ℕ) (i j : ℕ) → slice_get texts i ≡ Some text → slice_get texts j ≡ Some text → i ≡ j
one-place texts distinct text i j at_i at_j = by (cases_order i j)
  where
    both : (k l : ℕ) → slice_get texts k ≡ Some text → slice_get texts l ≡ Some text → k < l → ⊥
    both k l at_k at_l before = distinct k l text before (slice_get_within texts l text at_l) (get_or_from_slice_get texts k text text at_k ∙ sym (get_or_from_slice_get texts l text text at_l))

    by : (i ≡ j) ⊎ ((i < j) ⊎ (j < i)) → i ≡ j
    by (inl same) = same
    by (inr (inl before)) = absurd (both i j at_i at_j before)
    by (inr (inr after)) = absurd (both j i at_j at_i after)

module _ {X : Type 0} (text_of : X → List ℕ) where
  -- where no key is found by the text, it stands nowhere
  pub no-place : (text : List ℕ) (keys : List X) → false ≡ list_any (λ k. bytes_eq text (text_of k)) keys → IsPlaceOf (map text_of keys) text None
  no-place text keys none there = false≢true (none ∙ list_any-texts text_of text keys ∙ found-Contains text (map text_of keys) there)

  -- the first place at which a key is found by the text is the place of the text
  pub found-place : (text : List ℕ) (keys : List X) → AllPairs (λ x y. x ≢ y) (map text_of keys) → (place : ℕ) → Some place ≡ position (λ k. bytes_eq text (text_of k)) keys → IsPlaceOf (map text_of keys) text (Some place)
  found-place text keys distinct place is =
      let texts : List (List ℕ) = map text_of keys in
      let first = position-Some (bytes_eq text) texts place text (sym (is ∙ position-texts text_of text keys)) in
      let here : slice_get texts place ≡ Some text = slice_get-get_or texts place text first.0 ∙ ap Some (sym ((bytes_eq-Decides text (get_or texts place text)).0 first.1)) in
      (here, λ other there. one-place texts distinct text other place there here)
