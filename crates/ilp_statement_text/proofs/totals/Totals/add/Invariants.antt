use Rattle.std.proofs.Common.{◌≡◌, ◌≢◌, ℕ, ◌<◌, ◌≤◌, Some, slice_get}
use Rattle.ilp_statement_text.specs.Totals.{Counts}
use Rattle.ilp_statement_text.specs.declared.totals.Total.{Total}
use Rattle.ilp_statement_text.proofs.totals.Totals.add.Given as goal

-- each before the index counts the row where it is of its kind, and those from it on are as they were
abbrev pub invariant-loop-total : goal.invariant-loop-total
invariant-loop-total l = record {
  counted : (n : ℕ) (old new : Total) → n < l.total-index → slice_get l.initial.total-items n ≡ Some old → slice_get l.total-items n ≡ Some new → old.kind ≡ l.kind → Counts l.amount old new;
  others : (n : ℕ) (old : Total) → n < l.total-index → slice_get l.initial.total-items n ≡ Some old → (old.kind ≢ l.kind) → slice_get l.total-items n ≡ Some old;
  left : (n : ℕ) → l.total-index ≤ n → slice_get l.total-items n ≡ slice_get l.initial.total-items n;
}
