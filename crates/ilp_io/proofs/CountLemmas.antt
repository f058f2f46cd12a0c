-- Counts of reads and failures, over several calls.
use Rattle.std.proofs.Common.{ℕ, ◌+◌, ◌≤◌, Option, Some, None, inl, inr, arith}
use Rattle.ilp_io.specs.Counts.{Tally, Tallies, TalliesUpTo, CountsUp}

pub TalliesUpTo-none : (u : Option Tally) → TalliesUpTo u u 0 0
TalliesUpTo-none None = tt
TalliesUpTo-none (Some x) = (omega arith, omega arith, omega arith)

-- one more call, after some of which none failed
pub TalliesUpTo-next : (u v w : Option Tally) (most more fails : ℕ)
    → TalliesUpTo u v most 0 → Tallies v w 1 fails → most + 1 ≤ more → TalliesUpTo u w more fails
TalliesUpTo-next None None None most more fails a b le = tt
TalliesUpTo-next None None (Some z) most more fails a b le = absurd b
TalliesUpTo-next None (Some y) w most more fails a b le = absurd a
TalliesUpTo-next (Some x) None None most more fails a b le = elim a [
  | inl end ↦ inl (omega arith)
  | inr end ↦ inr (omega arith)
]
TalliesUpTo-next (Some x) None (Some z) most more fails a b le = absurd b
TalliesUpTo-next (Some x) (Some y) None most more fails a b le = elim b [
  | inl end ↦ inl (omega arith)
  | inr end ↦ inr (omega arith)
]
TalliesUpTo-next (Some x) (Some y) (Some z) most more fails a b le = (omega arith, omega arith, omega arith)

pub CountsUp-none : (u : Option ℕ) → CountsUp u u 0
CountsUp-none None = tt
CountsUp-none (Some x) = omega arith

-- first none failed, and then n
pub CountsUp-after : (u v w : Option ℕ) (n : ℕ) → CountsUp u v 0 → CountsUp v w n → CountsUp u w n
CountsUp-after None None None n a b = tt
CountsUp-after None None (Some z) n a b = absurd b
CountsUp-after None (Some y) w n a b = absurd a
CountsUp-after (Some x) None None n a b = omega arith
CountsUp-after (Some x) None (Some z) n a b = absurd b
CountsUp-after (Some x) (Some y) None n a b = omega arith
CountsUp-after (Some x) (Some y) (Some z) n a b = omega arith
