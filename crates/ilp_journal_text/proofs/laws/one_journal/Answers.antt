use Rattle.ilp_journal_text.proofs.OneText as text
use Rattle.ilp_journal_text.proofs.laws.one_journal.Goals as goal

pub returns : goal.returns
returns c = λ C p q j k octets valid is_p is_q. text.one_journal C valid p q j k octets is_p is_q
