use Rattle.ilp_journal_text.proofs.EntryLines as lines
use Rattle.ilp_journal_text.proofs.laws.one_first_bad_entry_line.Goals as goal

pub returns : goal.returns
returns c = record {
  none = λ C j octets line valid are bad. lines.no_bad_line C valid j octets line are bad;
  one = λ C octets line other valid bad worse. lines.one_bad_line C valid octets line other bad worse;
}
