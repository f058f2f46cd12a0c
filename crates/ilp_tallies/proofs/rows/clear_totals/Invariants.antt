use Rattle.std.proofs.Common.{◌≡◌, ℕ, ◌<◌, ◌≤◌}
use Rattle.ilp_tallies.specs.Rows.{asset_row, without_totals}
use Rattle.ilp_tallies.proofs.rows.clear_totals.Given as goal

-- the rows before the index are cleared, and the others are as they were
abbrev pub invariant-loop-row : goal.invariant-loop-row
invariant-loop-row g l = record {
  cleared : (x : ℕ) → x < l.row-index → asset_row l.row-items x ≡ without_totals (asset_row l.initial.row-items x);
  left : (x : ℕ) → l.row-index ≤ x → asset_row l.row-items x ≡ asset_row l.initial.row-items x;
}
