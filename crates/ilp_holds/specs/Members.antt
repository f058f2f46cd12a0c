-- How holds come into the heap and leave it.
use Rattle.std.specs.Prelude.{◌≡◌, ℕ, List, insert, remove}
use Rattle.ilp_holds.specs.declared.due.Due.{Due}
use Rattle.ilp_holds.specs.declared.index.IndexRow.{IndexRow}
use Rattle.ilp_holds.specs.Heap.{IsHeapBut}
use Rattle.ilp_holds.specs.Index.{IsIndexed, LeadsTo, holds}

-- a hold has come in, with a row at `to` that leads to `at`; there it may be out of order
pub record IsAdded (heap : List Due) (index : List IndexRow) (to : ℕ) (new : Due) (after : List Due) (rows : List IndexRow) (at : ℕ) : Type 0 where
  pub indexed : IsIndexed after rows
  pub almost : IsHeapBut after at
  pub leads : LeadsTo rows to at
  pub joined : holds after rows ≡ insert (holds heap index) to new

-- the hold of the row at `out` has left; what stands at `at` in the heap may be out of order
pub record IsTakenOut (heap : List Due) (index : List IndexRow) (out : ℕ) (after : List Due) (rows : List IndexRow) (at : ℕ) : Type 0 where
  pub indexed : IsIndexed after rows
  pub almost : IsHeapBut after at
  pub left : holds after rows ≡ remove (holds heap index) out
