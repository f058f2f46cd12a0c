use Rattle.ilp_log_text.proofs.RowProofs.{new_row, saved_row, torn_row, remembered_row, later_row, next_row, earlier_row}
use Rattle.ilp_log_text.proofs.laws.rows.Goals as goal

pub returns : goal.returns
returns c = record { new = new_row; saved = saved_row; torn = torn_row; remembered = remembered_row; later = later_row; next = next_row; earlier = earlier_row }
