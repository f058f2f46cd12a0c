-- What a call of a system does to a file, also where it fails. A stop leaves of a file what it may: with `Off` one of the process alone, else one
-- of the machine.
use Rattle.std.specs.Prelude.{◌⊎◌, ℕ, List}
use Rattle.ilp_accounts.specs.declared.settings.LogSync.{LogSync}
use Rattle.ilp_line_file.specs.Device.{Only, Follows, Elapses}

-- what a stop leaves is what it might have left before, after a step
abbrev pub Steps : {F : Type 0} → (LogSync → F → List ℕ → Type 0) → (List ℕ → List ℕ → Type 0) → F → F → Type 0
Steps may_leave step old new = (sync : LogSync) → Follows step (may_leave sync old) (may_leave sync new)

-- a stop leaves nothing that it might not have left before
abbrev pub AddsNone : {F : Type 0} → (LogSync → F → List ℕ → Type 0) → F → F → Type 0
AddsNone may_leave old new = (sync : LogSync) (left : List ℕ) → may_leave sync new left → may_leave sync old left

-- a stop leaves what it might have left of one or of the other
abbrev pub LeavesEither : {F : Type 0} → (LogSync → F → List ℕ → Type 0) → F → F → F → Type 0
LeavesEither may_leave one other new = (sync : LogSync) (left : List ℕ) → may_leave sync new left → may_leave sync one left ⊎ may_leave sync other left

-- time goes on
abbrev pub Lasts : {F : Type 0} → (LogSync → F → List ℕ → Type 0) → (F → ℕ) → (LogSync → F → ℕ → List ℕ → Type 0) → F → F → Type 0
Lasts may_leave moment left_since old new = (sync : LogSync) → Elapses (moment old) (moment new) (left_since sync old) (left_since sync new) (may_leave sync new)

-- a stop leaves what a read returns, whichever stop it is
abbrev pub IsKept : {F : Type 0} → (F → List ℕ) → (LogSync → F → List ℕ → Type 0) → F → Type 0
IsKept seen may_leave file = (sync : LogSync) → Only (seen file) (may_leave sync file)
