use Rattle.ilp_assets.proofs.RowProofs.{quote_rows, scale_rows, fault_rows}
use Rattle.ilp_assets.proofs.laws.rows.Goals as goal

pub returns : goal.returns
returns c = record { quotes = quote_rows; scales = scale_rows; faults = fault_rows }
