-- Rows of an index, which rise.
use Rattle.std.proofs.Common.{◌≡◌, ◌≢◌, ℕ, ◌<◌, List, length, get_or, map, set, inl, inr, sym, ◌∙◌, ap, arith}
use Rattle.std.specs.List.Sorted.{IsNonDecreasingBy}
use Rattle.std.proofs.lemmas.Bool.{cases_eq, cases_lt, cases_order, eq-eqb, ne_eqb}
use Rattle.std.proofs.lemmas.List.{ext_get_or, get_or-map, get_or-set_same, get_or-set_other, length-map, length-set}
use Rattle.std.proofs.lemmas.List.Sorted.{IsNonDecreasingBy-from_default}
use Rattle.ilp_holds.specs.declared.due.Due.{Due}
use Rattle.ilp_holds.specs.declared.index.IndexRow.{IndexRow}
use Rattle.ilp_holds.specs.Index.{no_row, row, IsRising, IsFoundAt, IsMissingAt, IsIndexed, LeadsTo, moved}

-- rows of which the numbers rise are sorted by them
pub rising_sorted : (index : List IndexRow) → IsRising index → IsNonDecreasingBy (λ p. p.number) index
rising_sorted index rising = IsNonDecreasingBy-from_default (λ p. p.number) index no_row (λ i j le l. elim (cases_lt i j) [
  | inl lt ↦ let h = rising i j lt l in omega arith
  | inr ge ↦ let e : i ≡ j = omega arith in rw e (omega arith)
])

-- no two rows have one number
pub one_row : (index : List IndexRow) → IsRising index → (i j : ℕ) → i < length index → j < length index → (row index i).number ≡ (row index j).number → i ≡ j
one_row index rising i j a b e = elim (cases_order i j) [
  | inl same ↦ same
  | inr (inl lt) ↦ let h = rising i j lt b in absurd (omega arith)
  | inr (inr lt) ↦ let h = rising j i lt a in absurd (omega arith)
]

pub moved-same : (number at : ℕ) (p : IndexRow) → p.number ≡ number → moved number at p ≡ record { number = p.number; at = at }
moved-same number at p e = rw (eq-eqb p.number number e)

pub moved-other : (number at : ℕ) (p : IndexRow) → p.number ≢ number → moved number at p ≡ p
moved-other number at p n = rw (ne_eqb p.number number n)

pub number-moved : (number at : ℕ) (p : IndexRow) → (moved number at p).number ≡ p.number
number-moved number at p = elim (cases_eq p.number number) [
  | inl e ↦ ap (λ q. q.number) (moved-same number at p e)
  | inr n ↦ ap (λ q. q.number) (moved-other number at p n)
]

-- the row with another place
abbrev pub placed : IndexRow → ℕ → IndexRow
placed p at = record { number = p.number; at = at }

-- the row of a number is set
pub noted : (index : List IndexRow) (number at i : ℕ) → IsRising index → IsFoundAt index number i → set index i (placed (row index i) at) ≡ map (moved number at) index
noted index number at i rising found = ext_get_or no_row _ _ (length-set index i (placed (row index i) at) ∙ sym (length-map index (moved number at))) each
  where
    at_row : (k : ℕ) → k < length index → get_or (set index i (placed (row index i) at)) k no_row ≡ moved number at (row index k)
    at_row k l = elim (cases_eq k i) [
      | inl e ↦ rw (e, get_or-set_same index i (placed (row index i) at) no_row found.0) (sym (moved-same number at (row index i) found.1))
      | inr n ↦ rw (get_or-set_other index i k (placed (row index i) at) no_row n) (sym (moved-other number at (row index k) (λ e. n (one_row index rising k i l found.0 (e ∙ sym found.1)))))
    ]

    each : (k : ℕ) → k < length (set index i (placed (row index i) at)) → get_or (set index i (placed (row index i) at)) k no_row ≡ get_or (map (moved number at) index) k no_row
    each k l = let l' : k < length index = omega (arith, length-set index i (placed (row index i) at)) in at_row k l' ∙ sym (get_or-map (moved number at) index k no_row no_row l')

-- where no row has the number, none is set
pub unnoted : (index : List IndexRow) (number at i : ℕ) → IsMissingAt index number i → index ≡ map (moved number at) index
unnoted index number at i missing = ext_get_or no_row _ _ (sym (length-map index (moved number at))) (λ k l.
    sym (get_or-map (moved number at) index k no_row no_row l ∙ moved-other number at (row index k) (elim (cases_lt k i) [
      | inl lt ↦ let h = missing.before k lt in omega arith
      | inr ge ↦ let h = missing.after k ge l in omega arith
    ])))

-- the place that a row leads to is in the heap
pub place_within : (heap : List Due) (index : List IndexRow) (i at : ℕ) → IsIndexed heap index → LeadsTo index i at → at < length heap
place_within heap index i at ok leads = rw (← leads.1) (ok.within i leads.0)
