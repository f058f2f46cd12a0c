-- Checks in order, each of which finds a fault or none. The first fault counts.
use Rattle.std.specs.Prelude.{Bool, if◌then◌else◌, List, [], ◌∷◌, ◌++◌, Option, Some, None}

-- the fault of the first check that has one
abbrev pub first_of : {E : Type 0} → List (Option E) → Option E
first_of [] = None
first_of (None ∷ checks) = first_of checks
first_of (Some fault ∷ checks) = Some fault

-- a fault where the test passes
abbrev pub when : {E : Type 0} → Bool → E → Option E
when fails fault = if fails then Some fault else None

-- the first fault of a list whose elements are each looked at beside what those before it gave, which begins with `before`
abbrev pub first_beside : {X R E : Type 0} → (List R → X → Option E) → (X → R) → List R → List X → Option E
first_beside fault give before [] = None
first_beside fault give before (x ∷ xs) = first_of (fault before x ∷ first_beside fault give (before ++ give x ∷ []) xs ∷ [])

-- the first fault of a list whose elements are each looked at beside those before it, which begin with `before`
abbrev pub first_along : {X E : Type 0} → (List X → X → Option E) → List X → List X → Option E
first_along fault = first_beside fault (λ x. x)
