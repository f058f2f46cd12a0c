-- The index of a heap: where each hold stands, by its number.
use Rattle.std.specs.Prelude.{◌≡◌, ℕ, ◌<◌, ◌≤◌, List, length, map, slice_index_or, ◌==◌, if◌then◌else◌}
use Rattle.ilp_holds.specs.declared.due.Due.{Due}
use Rattle.ilp_holds.specs.declared.index.IndexRow.{IndexRow}
use Rattle.ilp_holds.specs.Due.{due}

-- what is read past the end of an index
abbrev pub no_row : IndexRow
no_row = record { number = 0; at = 0 }

-- a row of an index
abbrev pub row : List IndexRow → ℕ → IndexRow
row index i = slice_index_or index i no_row

-- numbers rise from row to row
abbrev pub IsRising : List IndexRow → Type 0
IsRising index = (i j : ℕ) → i < j → j < length index → (row index i).number < (row index j).number

-- the row at i has this number
abbrev pub IsFoundAt : List IndexRow → ℕ → ℕ → Type 0
IsFoundAt index number i = (i < length index) × ((row index i).number ≡ number)

-- no row has this number, and at i it would be in its place
pub record IsMissingAt (index : List IndexRow) (number i : ℕ) : Type 0 where
  pub within : i ≤ length index
  pub before : (j : ℕ) → j < i → (row index j).number < number
  pub after : (j : ℕ) → i ≤ j → j < length index → number < (row index j).number

-- the first `count` rows have lower numbers, and no other has
pub record IsCountBelow (index : List IndexRow) (number count : ℕ) : Type 0 where
  pub within : count ≤ length index
  pub before : (j : ℕ) → j < count → (row index j).number < number
  pub after : (j : ℕ) → count ≤ j → j < length index → number ≤ (row index j).number

-- the row at i leads to this place of the heap
abbrev pub LeadsTo : List IndexRow → ℕ → ℕ → Type 0
LeadsTo index i at = (i < length index) × ((row index i).at ≡ at)

-- each row names the place of its hold, and each hold has a row
pub record IsIndexed (heap : List Due) (index : List IndexRow) : Type 0 where
  pub rising : IsRising index
  pub within : (i : ℕ) → i < length index → (row index i).at < length heap
  pub named : (i : ℕ) → i < length index → (due heap (row index i).at).number ≡ (row index i).number
  pub complete : (k : ℕ) → k < length heap → (i : ℕ) × (i < length index) × ((row index i).at ≡ k)

-- the row once the hold of this number stands at this place
abbrev pub moved : ℕ → ℕ → IndexRow → IndexRow
moved number at place = if place.number == number then record { number = place.number; at = at } else place

-- the holds of a heap in the order of its index, which is that of their numbers
abbrev pub holds : List Due → List IndexRow → List Due
holds heap index = map (λ place. due heap place.at) index
