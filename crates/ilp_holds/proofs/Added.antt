-- A hold joins a heap as its last, and a row of it the index.
use Rattle.std.proofs.Common.{◌≡◌, ℕ, ◌+◌, ◌<◌, ◌≤◌, ◌⊎◌, List, [], ◌∷◌, ◌++◌, length, inl, inr, refl, sym, ◌∙◌, ap, arith}
use Rattle.std.specs.List.{insert}
use Rattle.std.proofs.lemmas.Bool.{cases_eq}
use Rattle.std.proofs.lemmas.List.{ext_get_or, get_or-map, get_or_append_left, get_or_push, length-map, length_push}
use Rattle.std.proofs.lemmas.List.Edits.{length-insert, get_or-insert_at}
use Rattle.ilp_holds.specs.declared.due.Due.{Due}
use Rattle.ilp_holds.specs.declared.index.IndexRow.{IndexRow}
use Rattle.ilp_holds.specs.Due.{no_due, due}
use Rattle.ilp_holds.specs.Heap.{IsHeap, IsHeapBut}
use Rattle.ilp_holds.specs.Members.{IsAdded}
use Rattle.ilp_holds.specs.Index.{no_row, row, IsMissingAt, IsIndexed, LeadsTo, holds}
use Rattle.ilp_holds.proofs.HeapSteps.{opened}
use Rattle.ilp_holds.proofs.Skips.{skip, skip_cases, skip_reflects, skip_within, skipped_to, get_or-insert}

module _ (heap : List Due) (index : List IndexRow) (to : ℕ) (new : Due) (ok : IsIndexed heap index) (missing : IsMissingAt index new.number to) where
  abbrev after : List Due
  after = heap ++ new ∷ []

  abbrev rows : List IndexRow
  rows = insert index to (record { number = new.number; at = length heap })

  longer : length rows ≡ length index + 1
  longer = length-insert index to (record { number = new.number; at = length heap }) missing.within

  length_after : length after ≡ length heap + 1
  length_after = length_push heap new

  new_row : row rows to ≡ record { number = new.number; at = length heap }
  new_row = get_or-insert_at index to (record { number = new.number; at = length heap }) no_row missing.within

  old_row : (i : ℕ) → row rows (skip to i) ≡ row index i
  old_row i = get_or-insert index to (record { number = new.number; at = length heap }) i no_row missing.within

  -- each row is the new one or an old one
  new_or_old : (j : ℕ) → j < length rows → (j ≡ to) ⊎ ((i : ℕ) × (i < length index) × (skip to i ≡ j))
  new_or_old j h = elim (cases_eq j to) [
    | inl e ↦ inl e
    | inr n ↦ inr (skipped_to to j (length index) n (omega (arith, longer)) (let w = missing.within in omega arith))
  ]

  old_due : (k : ℕ) → k < length heap → due after k ≡ due heap k
  old_due k h = get_or_append_left heap (new ∷ []) no_due k h

  new_due : due after (length heap) ≡ new
  new_due = get_or_push heap new no_due (length heap) refl

  rises : (i j : ℕ) → i < j → j < length rows → (row rows i).number < (row rows j).number
  rises i j lt h = elim (new_or_old i (omega arith)) [
    | inl e ↦ elim (new_or_old j h) [
      | inl f ↦ absurd (omega arith)
      | inr q ↦
          let late : to ≤ q.0 = (let e' = q.2 in elim (skip_cases to q.0) [ inl p ↦ absurd (omega arith) | inr p ↦ p.0 ]) in
          rw (e, new_row, ← q.2, old_row q.0) (missing.after q.0 late q.1)
    ]
    | inr p ↦ elim (new_or_old j h) [
      | inl f ↦
          let early : p.0 < to = (let e' = p.2 in elim (skip_cases to p.0) [ inl q ↦ q.0 | inr q ↦ absurd (omega arith) ]) in
          rw (f, new_row, ← p.2, old_row p.0) (missing.before p.0 early)
      | inr q ↦
          let lt' : p.0 < q.0 = skip_reflects to p.0 q.0 (rw (p.2, q.2) lt) in
          rw (← p.2, ← q.2, old_row p.0, old_row q.0) (ok.rising p.0 q.0 lt' q.1)
    ]
  ]

  -- where a row leads
  leads : (j : ℕ) → j < length rows → ((row rows j).at < length heap + 1) × ((due after (row rows j).at).number ≡ (row rows j).number)
  leads j h = elim (new_or_old j h) [
    | inl e ↦ (rw (e, new_row) (omega arith), rw (e, new_row, new_due) refl)
    | inr p ↦
        let in' = ok.within p.0 p.1 in
        (rw (← p.2, old_row p.0) (omega arith), rw (← p.2, old_row p.0, old_due (row index p.0).at in') (ok.named p.0 p.1))
  ]

  leads_new : LeadsTo (insert index to (record { number = new.number; at = length heap })) to (length heap)
  leads_new = (let w = missing.within in omega (arith, longer), ap (λ (q : IndexRow). q.at) new_row)

  indexed : IsIndexed (heap ++ new ∷ []) (insert index to (record { number = new.number; at = length heap }))
  indexed = record {
    rising = rises;
    within = λ j h. rw length_after (leads j h).0;
    named = λ j h. (leads j h).1;
    complete = λ k h. elim (cases_eq k (length heap)) [
      | inl e ↦ (to, let w = missing.within in omega (arith, longer), ap (λ (q : IndexRow). q.at) new_row ∙ sym e)
      | inr n ↦
          let p = ok.complete k (omega (arith, length_after)) in
          let s = skip_within to p.0 in
          (skip to p.0, let h' = p.1 in let t = s.1 in omega (arith, longer), ap (λ (q : IndexRow). q.at) (old_row p.0) ∙ p.2)
    ];
  }

  joined : holds (heap ++ new ∷ []) (insert index to (record { number = new.number; at = length heap })) ≡ insert (holds heap index) to new
  joined =
      let b : length (holds heap index) ≡ length index = length-map index (λ place. due heap place.at) in
      let in' : to ≤ length (holds heap index) = (let w = missing.within in omega arith) in
      let long : length (insert (holds heap index) to new) ≡ length (holds heap index) + 1 = length-insert (holds heap index) to new in' in
      let a : length (holds after rows) ≡ length rows = length-map rows (λ place. due after place.at) in
      ext_get_or no_due _ _ (omega (arith, longer)) (λ j h.
      let h' : j < length rows = omega arith in
      get_or-map (λ place. due after place.at) rows j no_row no_due h' ∙ elim (new_or_old j h') [
        | inl e ↦ rw (e, new_row, new_due) (sym (get_or-insert_at (holds heap index) to new no_due in'))
        | inr p ↦ rw (← p.2, old_row p.0, old_due (row index p.0).at (ok.within p.0 p.1))
            (sym (get_or-insert (holds heap index) to new p.0 no_due in' ∙ get_or-map (λ place. due heap place.at) index p.0 no_row no_due p.1))
      ])

  almost : IsHeap heap → IsHeapBut (heap ++ new ∷ []) (length heap)
  almost order = opened heap (heap ++ new ∷ []) (length heap) order (λ k l n.
      let l' : k < length heap = omega (arith, length_after) in
      (l', old_due k l'))

  -- what the steps of `add` leave
  pub added : (now : List Due) (index_now : List IndexRow) → IsHeap heap → now ≡ heap ++ new ∷ [] → index_now ≡ insert index to (record { number = new.number; at = length heap }) → IsAdded heap index to new now index_now (length heap)
  added now index_now order is are = rw (is, are) (record { indexed = indexed; almost = almost order; leads = leads_new; joined = joined })
