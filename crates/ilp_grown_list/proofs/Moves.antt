-- Each step keeps the rule of a list that only grows.
use Rattle.std.proofs.Common.{◌≡◌, ◌≢◌, ℕ, zero, suc, List, [], ◌∷◌, ◌++◌, set, true, false, true≢false, refl, sym, ◌∙◌, subst, ⊎_elim}
use mathlib.Core.Option.{some, some-ne-none, some-injective}
use mathlib.Core.List.{IsPrefix}
use lib.ListN.{get_elem?}
use Rattle.atomic_table.specs.Table.{State, Me, keeps, Allows, Splits, Joins}
use Rattle.atomic_table.proofs.Lists.{at_set, at_snoc, set_again}
use Rattle.ilp_grown_list.specs.declared.law.View.{View}
use Rattle.ilp_grown_list.specs.Grown.{knower, seer, shown, AreOfOneList, Grew, Checked}
use Rattle.ilp_grown_list.proofs.Begins.{prefix_self, prefix_nil, prefix_trans}

off : false ≡ true → ⊥
off e = true≢false (sym e)

module _ {E : Type 0} where
  -- what the rule says of one view
  abbrev Fits : ℕ → List E → ℕ → View E → Type 0
  Fits seat list by v = (v.keeps ≡ true → (by ≡ seat) × (v.all ≡ list)) × IsPrefix v.claim list

  fits_set : (seat : ℕ) (now : List E) (views : List (View E)) (by : ℕ) (w : View E) → ((j : ℕ) (u : View E) → j ≢ by → get_elem? views j ≡ some u → Fits seat now j u) → Fits seat now by w → (j : ℕ) (u : View E) → get_elem? (set views by w) j ≡ some u → Fits seat now j u
  fits_set seat now views by w others mine j u e =
      ⊎_elim
      (λ (x : (j ≡ by) × (w ≡ u)). subst (λ (y : ℕ × View E). Fits seat now y.0 y.1) (λ i. (sym x.0 i, x.1 i)) mine)
      (λ (x : (j ≢ by) × (get_elem? views j ≡ some u)). others j u x.0 x.1)
      (at_set views by j w u e)

  pub begins : AreOfOneList (knower {E = E} [] ∷ [])
  begins = (0, [], one)
    where
      one : (by : ℕ) (v : View E) → get_elem? (knower [] ∷ []) by ≡ some v → Fits 0 [] by v
      one zero v e = subst (Fits 0 [] 0) (some-injective _ _ e) ((λ _. (refl, refl)), prefix_nil [])
      one (suc by) v e = absurd (some-ne-none v (sym e))

  pub grows : (views : List (View E)) (by : ℕ) (all new : List E) → AreOfOneList views → get_elem? views by ≡ some (knower all) → IsPrefix all new → AreOfOneList (set views by (knower new))
  grows views by all new h at longer =
      let mine = (h.2 by (knower all) at).0 refl in
      let more : IsPrefix h.1 new = subst (λ (l : List E). IsPrefix l new) mine.1 longer in (
        h.0,
        new,
        fits_set h.0 new views by (knower new)
            (λ j u apart e. ((λ k. absurd (apart (((h.2 j u e).0 k).0 ∙ sym mine.0))), prefix_trans u.claim h.1 new (h.2 j u e).1 more))
            ((λ _. (mine.0, refl)), prefix_nil new),
      )

  pub checks : (views : List (View E)) (by : ℕ) (v : View E) → AreOfOneList views → get_elem? views by ≡ some v → v.keeps ≡ true → AreOfOneList (set views by (knower v.all)) × IsPrefix v.claim v.all
  checks views by v h at is =
      let mine = h.2 by v at in
      let known = mine.0 is in
      ((h.0, h.1, fits_set h.0 h.1 views by (knower v.all) (λ j u apart e. h.2 j u e) ((λ _. known), prefix_nil h.1)), subst (λ (l : List E). IsPrefix v.claim l) (sym known.1) mine.1)

  pub gives : (views : List (View E)) (by : ℕ) (all : List E) → AreOfOneList views → get_elem? views by ≡ some (knower all) → AreOfOneList (set views by (knower all) ++ seer all ∷ [])
  gives views by all h at =
      let mine = (h.2 by (knower all) at).0 refl in (
        h.0,
        h.1,
        λ j u e. ⊎_elim
            (λ was. h.2 j u (subst (λ l. get_elem? l j ≡ some u) (set_again views by (knower all) at) was))
            (λ (same : seer all ≡ u). subst (Fits h.0 h.1 j) same ((λ k. absurd (off k)), subst (λ (l : List E). IsPrefix all l) mine.1 (prefix_self all)))
            (at_snoc (set views by (knower all)) (seer all) u j e),
      )

  pub takes_in : (views : List (View E)) (by : ℕ) (all : List E) (other : ℕ) (u : View E) → AreOfOneList views → get_elem? views by ≡ some (knower all) → ¬ (other ≡ by) → get_elem? (set views by (shown (knower all) u)) other ≡ some u → AreOfOneList (set (set views by (shown (knower all) u)) other (seer []))
  takes_in views by all other u h at apart there =
      let w = shown (knower all) u in
      let mine = (h.2 by (knower all) at).0 refl in
      let theirs = ⊎_elim (λ (t : (other ≡ by) × (w ≡ u)). absurd (apart t.0)) (λ (t : (other ≢ by) × (get_elem? views other ≡ some u)). h.2 other u t.1) (at_set views by other w u there) in
      (h.0, h.1, fits_set h.0 h.1 (set views by w) other (seer []) (λ j v _ e. fits_set h.0 h.1 views by w (λ i y _ e'. h.2 i y e') ((λ _. mine), theirs.1) j v e) ((λ k. absurd (off k)), prefix_nil h.1))

  -- ---- as the calls ask for them

  module _ {S : Type 0} where
    abbrev pub Rule : State S (View E) → Type 0
    Rule s = AreOfOneList s.views

    pub grows_as : (told : List E → S → List E) (x : S) (slots id : ℕ) (me : Me S (View E)) (all : List E) (f : ℕ → ℕ) → me ≡ (knower all, []) → IsPrefix all (told all x)
        → Allows Rule slots id me 0 f (λ n w. Grew told (some x) me w)
    grows_as told x slots id me all f is longer =
        let P : Me S (View E) → Type 0 = λ m. Allows Rule slots id m 0 f (λ n w. Grew told (some x) m w) in
        subst P (sym is) (λ s h _ at _. (knower (told all x), keeps, tt, grows s.views id all (told all x) h at longer, refl))

    pub checks_as : (slots id : ℕ) (me : Me S (View E)) → me.0.keeps ≡ true → Allows Rule slots id me 0 (λ n. n) (λ n w. Checked me w)
    checks_as slots id me is s h _ at _ = let c = checks s.views id me.0 h at is in (knower me.0.all, keeps, tt, c.0, (refl, c.1))

    pub gives_as : (id : ℕ) (v : View E) (all : List E) → v ≡ knower all → Splits Rule id v v (seer v.all)
    gives_as id v all is = let P : View E → Type 0 = λ u. Splits Rule id u u (seer u.all) in subst P (sym is) (λ s h at. gives s.views id all h at)

    pub takes_in_as : (id : ℕ) (v : View E) (all : List E) (other : ℕ) (u : View E) → v ≡ knower all → Joins Rule id v other u (shown v u) (seer [])
    takes_in_as id v all other u is = let P : View E → Type 0 = λ x. Joins Rule id x other u (shown x u) (seer []) in subst P (sym is) (λ s h at apart there. takes_in s.views id all other u h at apart there)
