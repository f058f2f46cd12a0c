-- Which connection is closed where more wait than may.
use Rattle.std.specs.Prelude.{◌≡◌, ℕ, ◌<◌, ◌≤◌, ◌==◌, ◌⊎◌, List, Bool, true, false, Some, slice_get, count_by}
use Rattle.ilp_flow.specs.declared.waiter.Waiter.{Waiter}
use Rattle.ilp_flow.specs.declared.waiter.Waiter.TheVariants.{Lingers, Partial, Whole}

abbrev pub lingers : Waiter → Bool
lingers Lingers = true
lingers _ = false

abbrev pub is_partial : Waiter → Bool
is_partial Partial = true
is_partial _ = false

abbrev pub is_of : ℕ → Waiter → Bool
is_of sender (Whole of) = of == sender
is_of sender _ = false

-- how many whole requests of a sender wait
abbrev pub whole_of : ℕ → List Waiter → ℕ
whole_of sender waiters = count_by (is_of sender) waiters

-- Of those for which the test is true, the first in front, this is the oldest.
pub record IsOldest (test : Waiter → Bool) (waiters : List Waiter) (place : ℕ) : Type 0 where
  pub waiter : Waiter
  pub stands : slice_get waiters place ≡ Some waiter
  pub is : test waiter ≡ true
  pub none_older : (k : ℕ) (other : Waiter) → k < place → slice_get waiters k ≡ Some other → test other ≡ false

-- The test is true of none.
abbrev pub HasNone : (Waiter → Bool) → List Waiter → Type 0
HasNone test waiters = count_by test waiters ≡ 0

-- It is a whole request, of a sender of whom most wait, and the newest of all such.
pub record IsOfMost (waiters : List Waiter) (place : ℕ) : Type 0 where
  pub sender : ℕ
  pub stands : slice_get waiters place ≡ Some (Whole sender)
  pub most : (other : ℕ) → whole_of other waiters ≤ whole_of sender waiters
  pub newest : (k other : ℕ) → place < k → slice_get waiters k ≡ Some (Whole other) → whole_of other waiters < whole_of sender waiters

-- Of those that wait at a side, the first to come in front, this one is closed: the one that lingers longest; where none does, the oldest
-- whose request isn't whole; and where all are whole, the newest of the sender with most.
abbrev pub IsClosedNext : List Waiter → ℕ → Type 0
IsClosedNext waiters place =
    IsOldest lingers waiters place
    ⊎ (HasNone lingers waiters × (IsOldest is_partial waiters place ⊎ (HasNone is_partial waiters × IsOfMost waiters place)))
