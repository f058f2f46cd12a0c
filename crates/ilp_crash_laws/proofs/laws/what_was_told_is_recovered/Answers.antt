use Rattle.ilp_crash_laws.proofs.Recovered.{is_whole, is_not_refused}
use Rattle.ilp_crash_laws.proofs.laws.what_was_told_is_recovered.Goals as goal

pub returns-clause-whole : goal.returns-clause-whole
returns-clause-whole c opening told book text octets run left now again begins =
    is_whole (record {
      has_lines = c.log_texts_have_the_lines_of_journal_texts.ensures;
      one_log = c.one_log_text.ensures.one;
      not_bad = c.one_log_text.ensures.not_bad;
      begins = c.recovered_begins.ensures.begins;
      refused = c.recovered_begins.ensures.refused;
    }) opening told book text octets run left now again begins

pub returns-clause-refused : goal.returns-clause-refused
returns-clause-refused c opening told book text octets run left refusal why =
    is_not_refused (record {
      has_lines = c.log_texts_have_the_lines_of_journal_texts.ensures;
      one_log = c.one_log_text.ensures.one;
      not_bad = c.one_log_text.ensures.not_bad;
      begins = c.recovered_begins.ensures.begins;
      refused = c.recovered_begins.ensures.refused;
    }) opening told book text octets run left refusal why
