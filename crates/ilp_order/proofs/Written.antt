-- Lists of which one place was written.
use Rattle.std.proofs.Common.{arith, ◌≡◌, ◌≢◌, ℕ, zero, suc, ◌<◌, List, [], ◌∷◌, length, Some, slice_get, slice_set, refl, ap}

-- there stands what was written
pub at_written : {X : Type 0} (xs : List X) (place : ℕ) (y : X) → place < length xs → slice_get (slice_set xs place y) place ≡ Some y
at_written [] place y within = absurd (omega (arith, within))
at_written (z ∷ xs) zero y within = refl
at_written (z ∷ xs) (suc place) y within = at_written xs place y (omega (arith, within))

-- elsewhere stands what stood there
pub beside_written : {X : Type 0} (xs : List X) (place : ℕ) (y : X) (k : ℕ) → k ≢ place → slice_get (slice_set xs place y) k ≡ slice_get xs k
beside_written [] place y k other = refl
beside_written (z ∷ xs) zero y zero other = absurd (other refl)
beside_written (z ∷ xs) zero y (suc k) other = refl
beside_written (z ∷ xs) (suc place) y zero other = refl
beside_written (z ∷ xs) (suc place) y (suc k) other = beside_written xs place y k (λ e. other (ap suc e))
