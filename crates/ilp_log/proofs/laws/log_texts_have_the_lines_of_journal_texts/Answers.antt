use Rattle.ilp_log.proofs.Grouping.{has_journal_lines}
use Rattle.ilp_log.proofs.laws.log_texts_have_the_lines_of_journal_texts.Goals as goal

pub returns : goal.returns
returns c form entries = has_journal_lines form entries
