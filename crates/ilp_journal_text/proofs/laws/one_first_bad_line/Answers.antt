use Rattle.ilp_journal_text.proofs.FirstBad as text
use Rattle.ilp_journal_text.proofs.laws.one_first_bad_line.Goals as goal

pub returns : goal.returns
returns c = record {
  none = λ C period j octets line valid is bad. text.never_bad C period j octets line is bad;
  one = λ C octets line other valid bad worse. text.one_bad_line C octets line other bad worse;
}
