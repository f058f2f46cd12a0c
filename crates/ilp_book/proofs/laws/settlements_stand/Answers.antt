use Rattle.ilp_book.proofs.SettledForGood.{first_closing, credited_is_kept, kept_for_good}
use Rattle.ilp_book.proofs.laws.settlements_stand.Goals as goal

pub returns : goal.returns
returns c = record { closed = first_closing; credited = credited_is_kept; kept = kept_for_good }
