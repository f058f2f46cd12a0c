-- Whose whole requests are most, of the first that wait.
use Rattle.std.specs.Prelude.{◌≡◌, ℕ, ◌<◌, ◌≤◌, nat_lt, List, length, Option, Some, None, slice_get, slice_index, if◌then◌else◌}
use Rattle.ilp_flow.specs.declared.waiter.Waiter.{Waiter}
use Rattle.ilp_flow.specs.declared.waiter.Waiter.TheVariants.{Whole}
use Rattle.ilp_flow.specs.declared.closing.Fullest.{Fullest}
use Rattle.ilp_flow.specs.Closing.{whole_of}

-- There is a count for each sender of a whole request.
abbrev pub HasRoomFor : List ℕ → List Waiter → Type 0
HasRoomFor counts waiters = (k sender : ℕ) → slice_get waiters k ≡ Some (Whole sender) → sender < length counts

-- Each count is how many whole requests of that sender wait.
abbrev pub HasCounted : List ℕ → List Waiter → Type 0
HasCounted counts waiters = (sender : ℕ) → sender < length counts → slice_index counts sender ≡ whole_of sender waiters

-- None of the first n is a whole request.
abbrev pub HasNoWholeBelow : List Waiter → ℕ → Type 0
HasNoWholeBelow waiters n = (k sender : ℕ) → k < n → slice_get waiters k ≡ Some (Whole sender) → ⊥

abbrev pub HasNoWhole : List Waiter → Type 0
HasNoWhole waiters = (k sender : ℕ) → slice_get waiters k ≡ Some (Whole sender) → ⊥

-- Of the whole requests among the first n this one's sender has most, so many, and it is the newest of all such.
pub record IsFullest (waiters : List Waiter) (n place count : ℕ) : Type 0 where
  pub sender : ℕ
  pub within : place < n
  pub stands : slice_get waiters place ≡ Some (Whole sender)
  pub counted : count ≡ whole_of sender waiters
  pub most : (k other : ℕ) → k < n → slice_get waiters k ≡ Some (Whole other) → whole_of other waiters ≤ count
  pub newest : (k other : ℕ) → place < k → k < n → slice_get waiters k ≡ Some (Whole other) → whole_of other waiters < count

-- of the first n, if any is a whole request
abbrev pub IsFullestOf : List Waiter → ℕ → Option Fullest → Type 0
IsFullestOf waiters n (Some f) = IsFullest waiters n f.place f.count
IsFullestOf waiters n None = HasNoWholeBelow waiters n

-- the later one, unless the sender of the one before has more
abbrev pub fuller : Option Fullest → ℕ → ℕ → Option Fullest
fuller None place count = Some (record { place = place; count = count })
fuller (Some f) place count = if nat_lt count f.count then Some f else Some (record { place = place; count = count })
