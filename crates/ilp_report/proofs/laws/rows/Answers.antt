use Rattle.ilp_report.proofs.RowProofs.{paid_row, settled_row, next_period_row}
use Rattle.ilp_report.proofs.laws.rows.Goals as goal

pub returns : goal.returns
returns c = record { paid = paid_row; settled = settled_row; next = next_period_row }
