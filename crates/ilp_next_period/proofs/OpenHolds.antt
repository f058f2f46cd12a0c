-- Open holds, as a table of their deadlines tells them.
use Rattle.std.proofs.Common.{◌≡◌, ℕ, ℤ, Option, Some, None, refl, sym, ap, ◌∙◌}
use Rattle.std.specs.Prelude.{IsSome}
use Rattle.std.specs.Ordering.{nat_cmp}
use Rattle.std.specs.FinMap as fin_map
use Rattle.std.specs.FinMap.{FinMap, get-empty}
use Rattle.ilp_journal.specs.declared.entry.Hold.{Hold}
use Rattle.ilp_journal.specs.Journal.{Entries, open_hold_at}
use Rattle.ilp_rules.specs.Tables.{deadline_of, AreOpen}

-- nothing is open where the table is empty
pub none_open : (j : Entries) (m : FinMap nat_cmp ℤ) → AreOpen j m → m ≡ fin_map.empty → (n : ℕ) → open_hold_at j n ≡ None
none_open j m open_now is n = of (open_hold_at j n) (sym (open_now n) ∙ ap (λ (d : FinMap nat_cmp ℤ). fin_map.get d n) is ∙ get-empty nat_cmp n)
  where
    of : (o : Option Hold) → deadline_of o ≡ None → o ≡ None
    of None e = refl
    of (Some h) e = cc

-- what the table lists is open
pub listed_open : (j : Entries) (m : FinMap nat_cmp ℤ) (n : ℕ) (deadline : ℤ) → AreOpen j m → fin_map.get m n ≡ Some deadline → IsSome (open_hold_at j n)
listed_open j m n deadline open_now at = of (open_hold_at j n) (sym (open_now n) ∙ at)
  where
    of : (o : Option Hold) → deadline_of o ≡ Some deadline → IsSome o
    of None e = absurd cc
    of (Some h) e = refl
