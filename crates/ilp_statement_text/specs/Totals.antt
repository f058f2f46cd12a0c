-- What the rows of a statement come to.
use Rattle.std.specs.Prelude.{◌≡◌, ◌+◌, ◌-◌, ◌^◌, ℤ, pos, ◌+ℤ◌, List, [], ◌∷◌, min, FitsSigned}
use Rattle.std.specs.Int.{w128}
use Rattle.ilp_statement.specs.declared.kind.Kind.{Kind}
use Rattle.ilp_statement.specs.declared.kind.Kind.TheVariants.{Opened, Sent, Paid, Returned, Received, Refused, Credited, Corrected, Asked, Confirmed, Undone}
use Rattle.ilp_statement_text.specs.declared.totals.Total.{Total}

-- each kind, in the order of its line
abbrev pub every_kind : List Kind
every_kind = Opened ∷ Sent ∷ Paid ∷ Returned ∷ Received ∷ Refused ∷ Credited ∷ Corrected ∷ Asked ∷ Confirmed ∷ Undone ∷ []

-- the total of a kind of which there are no rows
abbrev pub no_rows_of : Kind → Total
no_rows_of kind = record { kind = kind; count = 0; sum = pos 0 }

-- The new total is the old one with one more row of this amount. Its sum is exact as long as that fits 128 bits, and it
-- counts fewer than 2^32 rows.
pub record Counts (amount : ℤ) (old new : Total) : Type 0 where
  pub kind : new.kind ≡ old.kind
  pub count : new.count ≡ min (old.count + 1) (2 ^ 32 - 1)
  pub sum : FitsSigned w128 (old.sum +ℤ amount) → new.sum ≡ old.sum +ℤ amount
