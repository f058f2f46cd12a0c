-- Two holds change places in a heap, and the index follows.
use Rattle.std.proofs.Common.{◌≡◌, ◌≢◌, ℕ, ◌<◌, List, length, map, set, inl, inr, sym, ◌∙◌, ap, arith}
use Rattle.std.specs.List.{swap}
use Rattle.std.proofs.lemmas.Bool.{cases_eq}
use Rattle.std.proofs.lemmas.List.{ext_get_or, get_or-map, length-map}
use Rattle.std.proofs.lemmas.List.Edits.{Swapped, swapped_from_swap, length-swap}
use Rattle.ilp_holds.specs.declared.due.Due.{Due}
use Rattle.ilp_holds.specs.declared.index.IndexRow.{IndexRow}
use Rattle.ilp_holds.specs.Due.{no_due, due}
use Rattle.ilp_holds.specs.Index.{no_row, row, IsRising, IsFoundAt, IsIndexed, LeadsTo, moved, holds}
use Rattle.ilp_holds.proofs.Rows.{one_row, moved-same, moved-other, noted, number-moved, placed, place_within}

-- numbers still rise once rows are moved
pub rising_moved : (index : List IndexRow) (number at : ℕ) → IsRising index → IsRising (map (moved number at) index)
rising_moved index number at rising = λ i j lt l.
    let l' : j < length index = omega (arith, length-map index (moved number at)) in
    let is = λ (k : ℕ) (h : k < length index). ap (λ (q : IndexRow). q.number) (get_or-map (moved number at) index k no_row no_row h) ∙ number-moved number at (row index k) in
    rw (is i (omega arith), is j l') (rising i j lt l')

-- no two places of the heap have one number
pub one_place : (heap : List Due) (index : List IndexRow) → IsIndexed heap index → (k m : ℕ) → k < length heap → m < length heap → (due heap k).number ≡ (due heap m).number → k ≡ m
one_place heap index ok k m a b e =
    let p = ok.complete k a in
    let q = ok.complete m b in
    let n = ok.named p.0 p.1 in
    let o = ok.named q.0 q.1 in
    let same : p.0 ≡ q.0 = one_row index ok.rising p.0 q.0 p.1 q.1 (sym n ∙ ap (λ x. (due heap x).number) p.2 ∙ e ∙ sym (ap (λ x. (due heap x).number) q.2) ∙ o) in
    sym p.2 ∙ ap (λ x. (row index x).at) same ∙ q.2

-- the row that has the number of the hold at a place leads there
pub found_leads : (heap : List Due) (index : List IndexRow) (i at : ℕ) → IsIndexed heap index → at < length heap → IsFoundAt index (due heap at).number i → LeadsTo index i at
found_leads heap index i at ok l found = (found.0, one_place heap index ok (row index i).at at (ok.within i found.0) l (ok.named i found.0 ∙ found.1))

module _ (heap after : List Due) (index notes moves : List IndexRow) (r a b : ℕ) (leads_to : LeadsTo index r a) (b_in : b < length heap) (ok : IsIndexed heap index)
    (is : after ≡ swap heap a b) (noted_a : notes ≡ map (moved (due after a).number a) index) (set_b : moves ≡ set notes r (placed (row notes r) b)) where
  a_in : a < length heap
  a_in = place_within heap index r a ok leads_to

  places : Swapped (λ k. due heap k) (λ k. due after k) a b
  places = swapped_from_swap heap after a b no_due a_in b_in is

  -- the row at `r` is that of the hold which comes to `b`
  number_b : (row index r).number ≡ (due after b).number
  number_b = sym (ok.named r leads_to.0) ∙ ap (λ x. (due heap x).number) leads_to.1 ∙ sym (ap (λ (d : Due). d.number) places.1)

  found : IsFoundAt notes (due after b).number r
  found = rw noted_a (
    rw (length-map index (moved (due after a).number a)) leads_to.0,
    ap (λ (q : IndexRow). q.number) (get_or-map (moved (due after a).number a) index r no_row no_row leads_to.0) ∙ number-moved (due after a).number a (row index r) ∙ number_b,
  )

  follows : moves ≡ map (moved (due after b).number b) (map (moved (due after a).number a) index)
  follows = set_b ∙ noted notes (due after b).number b r (rw noted_a (rising_moved index (due after a).number a ok.rising)) found ∙ ap (map (moved (due after b).number b)) noted_a

  length_after : length after ≡ length heap
  length_after = rw is (length-swap heap a b)

  length_moves : length moves ≡ length index
  length_moves = rw follows (length-map (map (moved (due after a).number a) index) (moved (due after b).number b) ∙ length-map index (moved (due after a).number a))

  row_moved : (i : ℕ) → i < length index → row moves i ≡ moved (due after b).number b (moved (due after a).number a (row index i))
  row_moved i l = rw follows (get_or-map (moved (due after b).number b) (map (moved (due after a).number a) index) i no_row no_row (rw (length-map index (moved (due after a).number a)) l)
      ∙ ap (moved (due after b).number b) (get_or-map (moved (due after a).number a) index i no_row no_row l))

  number_moved : (i : ℕ) → i < length index → (row moves i).number ≡ (row index i).number
  number_moved i l = ap (λ (q : IndexRow). q.number) (row_moved i l) ∙ number-moved _ _ (moved (due after a).number a (row index i)) ∙ number-moved _ _ (row index i)

  -- where the holds' rows point to then
  at_b : (i : ℕ) → i < length index → (row index i).number ≡ (due after b).number → (row moves i).at ≡ b
  at_b i l e = ap (λ (q : IndexRow). q.at) (row_moved i l ∙ moved-same _ _ _ (number-moved _ _ (row index i) ∙ e))

  at_a : (i : ℕ) → i < length index → (row index i).number ≢ (due after b).number → (row index i).number ≡ (due after a).number → (row moves i).at ≡ a
  at_a i l n e = ap (λ (q : IndexRow). q.at) (row_moved i l ∙ moved-other _ _ _ (λ f. n (sym (number-moved _ _ (row index i)) ∙ f)) ∙ moved-same _ _ (row index i) e)

  at_other : (i : ℕ) → i < length index → (row index i).number ≢ (due after b).number → (row index i).number ≢ (due after a).number → (row moves i).at ≡ (row index i).at
  at_other i l n m = ap (λ (q : IndexRow). q.at) (row_moved i l ∙ moved-other _ _ _ (λ f. n (sym (number-moved _ _ (row index i)) ∙ f)) ∙ moved-other _ _ (row index i) m)

  -- the row that points to a place has the number of the hold there
  from_a : (i : ℕ) → i < length index → (row index i).number ≡ (due after b).number → (row index i).at ≡ a
  from_a i l e = one_place heap index ok _ a (ok.within i l) a_in (ok.named i l ∙ e ∙ ap (λ (d : Due). d.number) places.1)

  from_b : (i : ℕ) → i < length index → (row index i).number ≡ (due after a).number → (row index i).at ≡ b
  from_b i l e = one_place heap index ok _ b (ok.within i l) b_in (ok.named i l ∙ e ∙ ap (λ (d : Due). d.number) places.0)

  to_a : (i : ℕ) → i < length index → (row index i).at ≡ a → (row index i).number ≡ (due after b).number
  to_a i l e = sym (ok.named i l) ∙ ap (λ x. (due heap x).number) e ∙ sym (ap (λ (d : Due). d.number) places.1)

  to_b : (i : ℕ) → i < length index → (row index i).at ≡ b → (row index i).number ≡ (due after a).number
  to_b i l e = sym (ok.named i l) ∙ ap (λ x. (due heap x).number) e ∙ sym (ap (λ (d : Due). d.number) places.0)

  -- each row still leads to its hold
  leads : (i : ℕ) → i < length index → ((row moves i).at < length heap) × (due after (row moves i).at ≡ due heap (row index i).at)
  leads i l = elim (cases_eq (row index i).number (due after b).number) [
    | inl e ↦ (rw (at_b i l e) b_in, rw (at_b i l e, from_a i l e) places.1)
    | inr n ↦ elim (cases_eq (row index i).number (due after a).number) [
      | inl e ↦ (rw (at_a i l n e) a_in, rw (at_a i l n e, from_b i l e) places.0)
      | inr m ↦ (
        rw (at_other i l n m) (ok.within i l),
        rw (at_other i l n m) (places.2 (row index i).at (λ e. n (to_a i l e)) (λ e. m (to_b i l e))),
      )
    ]
  ]

  complete : (k : ℕ) → k < length heap → (i : ℕ) × (i < length index) × ((row moves i).at ≡ k)
  complete k l = elim (cases_eq k b) [
    | inl e ↦ let p = ok.complete a a_in in (p.0, p.1, at_b p.0 p.1 (to_a p.0 p.1 p.2) ∙ sym e)
    | inr n ↦ elim (cases_eq k a) [
      | inl e ↦
          let p = ok.complete b b_in in
          (p.0, p.1, at_a p.0 p.1 (λ f. n (e ∙ sym (from_a p.0 p.1 f) ∙ p.2)) (to_b p.0 p.1 p.2) ∙ sym e)
      | inr m ↦
          let p = ok.complete k l in
          (p.0, p.1, at_other p.0 p.1 (λ f. m (sym p.2 ∙ from_a p.0 p.1 f)) (λ f. n (sym p.2 ∙ from_b p.0 p.1 f)) ∙ p.2)
    ]
  ]

  pub leads_there : LeadsTo moves r b
  leads_there = (rw length_moves leads_to.0, at_b r leads_to.0 number_b)

  pub exchanged : IsIndexed after moves
  exchanged = record {
    rising = rw follows (rising_moved _ _ _ (rising_moved _ _ _ ok.rising));
    within = λ i l. rw length_after (leads i (rw length_moves at l)).0;
    named = λ i l. let l' = rw length_moves at l in ap (λ (d : Due). d.number) (leads i l').1 ∙ ok.named i l' ∙ sym (number_moved i l');
    complete = λ k l. let p = complete k (rw length_after at l) in (p.0, rw length_moves p.1, p.2);
  }

  pub same_holds : holds after moves ≡ holds heap index
  same_holds = ext_get_or no_due _ _ (length-map moves _ ∙ length_moves ∙ sym (length-map index _)) (λ i l.
      let l' : i < length moves = omega (arith, length-map moves (λ place. due after place.at)) in
      let l'' : i < length index = rw length_moves at l' in
      get_or-map (λ place. due after place.at) moves i no_row no_due l' ∙ (leads i l'').1 ∙ sym (get_or-map (λ place. due heap place.at) index i no_row no_due l''))
