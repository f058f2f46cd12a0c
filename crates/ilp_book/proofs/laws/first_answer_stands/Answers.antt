use Rattle.ilp_book.proofs.FirstAnswer.{first_answer, first_expiry}
use Rattle.ilp_book.proofs.laws.first_answer_stands.Goals as goal

pub returns : goal.returns
returns c = record { answered = first_answer; expired = first_expiry }
