-- What a step up or down keeps of a heap, and that its first is the earliest.
use Rattle.std.proofs.Common.{◌≡◌, ◌≢◌, ℕ, zero, suc, ◌<◌, ◌≤◌, List, length, inl, inr, refl, sym, ◌∙◌, arith, ap}
use Rattle.std.specs.List.{swap}
use Rattle.std.proofs.lemmas.Bool.{cases_eq}
use Rattle.std.proofs.lemmas.List.Edits.{Swapped, swapped_from_swap, length-swap}
use Rattle.ilp_holds.specs.declared.due.Due.{Due}
use Rattle.ilp_holds.specs.Due.{Precedes, no_due, due}
use Rattle.ilp_holds.specs.Heap.{parent, IsHeap, IsHeapBut, IsUnderParent, HasNoEarlier, IsEarlierChild}
use Rattle.ilp_holds.proofs.Order.{Precedes-refl, Precedes-trans}

-- `Precedes` of equal holds
along : (a b x y : Due) → a ≡ x → b ≡ y → Precedes x y → Precedes a b
along a b x y p q h = rw (p, q) h

module _ (heap after : List Due) (at other : ℕ) (in' : at < length heap) (within : other < length heap) (is : after ≡ swap heap at other) where
  places : Swapped (λ k. due heap k) (λ k. due after k) at other
  places = swapped_from_swap heap after at other no_due in' within is

  pub length_after : length after ≡ length heap
  length_after = rw is (length-swap heap at other)

  first : (k : ℕ) → k ≡ at → due after k ≡ due heap other
  first k e = rw e places.0

  second : (k : ℕ) → k ≡ other → due after k ≡ due heap at
  second k e = rw e places.1

  rest : (k : ℕ) → k ≢ at → k ≢ other → due after k ≡ due heap k
  rest k n m = places.2 k n m

  -- a step up: the hold changes places with its parent
  pub risen : other ≡ parent at → 0 < at → IsHeapBut heap at → IsHeapBut after other
  risen up pos hole = record {
    others = λ k z l n m.
        let l' : k < length heap = omega (arith, length_after) in
        elim (cases_eq (parent k) at) [
          | inl e ↦ along _ _ _ _ (first (parent k) e) (rest k (omega arith) n) (rw up (hole.over k pos z l' e))
          | inr e ↦ along _ _ _ _ (rest (parent k) e m) (rest k (λ f. m (ap parent f ∙ sym up)) n) (hole.others k z l' (λ f. m (ap parent f ∙ sym up)) e)
        ];
    over = λ k z' z l e.
        let l' : k < length heap = omega (arith, length_after) in
        let above = hole.others other z' within (omega arith) (omega arith) in
        let same = rest (parent other) (omega arith) (omega arith) in
        elim (cases_eq k at) [
          | inl f ↦ along _ _ _ _ same (first k f) above
          | inr f ↦ along _ _ _ _ same (rest k f (omega arith))
              (Precedes-trans _ _ _ above (let h = hole.others k z l' f (omega arith) in rw e at h))
        ];
  }

  module _ (earlier : IsEarlierChild heap at other) (hole : IsHeapBut heap at) where
    child : parent other ≡ at
    child = earlier.is_first.child_of

    below : 0 < other
    below = earlier.is_first.below

    -- a step down: the hold changes places with the first of its children
    pub sunk : IsHeapBut after other
    sunk = record {
      others = λ k z l n m.
          let l' : k < length heap = omega (arith, length_after) in
          elim (cases_eq k at) [
            | inl e ↦ along _ _ _ _ (rest (parent k) (omega arith) (omega (arith, child, below))) (first k e)
                (rw e (hole.over other (omega arith) below within child))
            | inr e ↦ elim (cases_eq (parent k) at) [
              | inl f ↦ along _ _ _ _ (first (parent k) f) (rest k e n) (earlier.is_first.first k z l' f)
              | inr f ↦ along _ _ _ _ (rest (parent k) f m) (rest k e n) (hole.others k z l' e f)
            ]
          ];
      over = λ k z' z l e.
          let l' : k < length heap = omega (arith, length_after) in
          let h = hole.others k z l' (omega (arith, child, below)) (omega (arith, child, below)) in
          along _ _ _ _ (first (parent other) child) (rest k (omega (arith, child, below)) (omega arith)) (rw e at h);
    }

    pub sunk_under : IsUnderParent after other
    sunk_under = λ z. along _ _ _ _ (first (parent other) child) (second other refl) earlier.is_earlier

-- where the hold at the open place is in order with its parent and its children, all are
pub ordered : (heap : List Due) (at : ℕ) → IsHeapBut heap at → IsUnderParent heap at → HasNoEarlier heap at → IsHeap heap
ordered heap at hole under none = λ k z l. elim (cases_eq k at) [
  | inl e ↦ rw e (under (omega arith))
  | inr e ↦ elim (cases_eq (parent k) at) [
    | inl f ↦ rw f (none k z l f)
    | inr f ↦ hole.others k z l e f
  ]
]

-- a list that is a heap at all places but one
pub opened : (heap after : List Due) (at : ℕ) → IsHeap heap → ((k : ℕ) → k < length after → k ≢ at → (k < length heap) × (due after k ≡ due heap k)) → IsHeapBut after at
opened heap after at order same = record {
  others = λ k z l n m. along _ _ _ _ (same (parent k) (omega arith) m).1 (same k l n).1 (order k z (same k l n).0);
  over = λ k z' z l e.
      let n : k ≢ at = omega arith in
      let l' : k < length heap = (same k l n).0 in
      along _ _ _ _ (same (parent at) (omega arith) (omega arith)).1 (same k l n).1
      (Precedes-trans _ _ _ (order at z' (omega arith)) (let h = order k z l' in rw e at h));
}

-- none comes before the first
pub first_precedes : (heap : List Due) → IsHeap heap → (n k : ℕ) → k ≤ n → k < length heap → Precedes (due heap 0) (due heap k)
first_precedes heap order zero k le l = let e : k ≡ 0 = omega arith in rw e (Precedes-refl (due heap 0))
first_precedes heap order (suc n) k le l = elim (cases_eq k 0) [
  | inl e ↦ rw e (Precedes-refl (due heap 0))
  | inr e ↦
      let z : 0 < k = omega arith in
      Precedes-trans _ _ _ (first_precedes heap order n (parent k) (omega arith) (omega arith)) (order k z l)
]
