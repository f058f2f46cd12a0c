use Rattle.ilp_journal_text.proofs.RowProofs.{paid_row, corrected_row, released_row, empty_row, later_row, lines_row}
use Rattle.ilp_journal_text.proofs.laws.rows.Goals as goal

pub returns : goal.returns
returns c = record { paid = paid_row; corrected = corrected_row; released = released_row; empty = empty_row; later = later_row; lines = lines_row }
