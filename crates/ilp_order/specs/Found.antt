-- What is looked for, and whether it is there.
use Rattle.std.specs.Prelude.{Option, Some, None}

-- the answer is one for which this holds, and none where it holds of nothing
module _ {X : Type 0} where
  abbrev pub Finds : (X → Type 0) → Option X → Type 0
  Finds P None = (x : X) → ¬ (P x)
  Finds P (Some x) = P x
