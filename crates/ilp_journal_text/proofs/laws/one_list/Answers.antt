use Rattle.ilp_journal_text.proofs.EntryLines as lines
use Rattle.ilp_journal_text.proofs.laws.one_list.Goals as goal

pub returns : goal.returns
returns c = λ C j k octets valid is_j is_k. lines.one_list C valid j k octets is_j is_k
