use Rattle.ilp_journal_text.proofs.EntryLines as lines
use Rattle.ilp_journal_text.proofs.laws.beginnings_of_lines.Goals as goal

pub returns : goal.returns
returns c = λ C entries whole after valid typed are same. lines.whole_front C valid entries whole after typed are same
