use Rattle.ilp_book.proofs.RowProofs.{paid_row, late_row, released_row, expired_row, least_row, terms_row, total_row, full_row, older_row, credited_row, corrected_row, settled_row, parts_row, carried_row}
use Rattle.ilp_book.proofs.laws.rows.Goals as goal

pub returns : goal.returns
returns c = record {
  paid = paid_row;
  late = late_row;
  released = released_row;
  expired = expired_row;
  least = least_row;
  terms = terms_row;
  total = total_row;
  full = full_row;
  older = older_row;
  credited = credited_row;
  corrected = corrected_row;
  settled = settled_row;
  parts = parts_row;
  carried = carried_row;
}
