-- The worked texts compute.
use Rattle.std.proofs.Common.{refl}
use Rattle.std.specs.Fmt.{digits}
use Rattle.hex.proofs.OnLiterals.{hex_on_literals}
use Rattle.ilp_journal_text.specs.Rows.{PaidRow, CorrectedRow, ReleasedRow, EmptyRow, LaterRow, LinesRow}

pub paid_row : PaidRow
unfolding digits hex_on_literals
paid_row = refl

pub corrected_row : CorrectedRow
unfolding digits hex_on_literals
corrected_row = refl

pub released_row : ReleasedRow
unfolding digits hex_on_literals
released_row = refl

pub empty_row : EmptyRow
unfolding digits
empty_row = refl

pub later_row : LaterRow
unfolding digits hex_on_literals
later_row = refl

pub lines_row : LinesRow
unfolding digits
lines_row = refl
