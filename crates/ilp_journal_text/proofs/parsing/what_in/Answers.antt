use Rattle.ilp_journal_text.proofs.parsing.what_in.Goals as goal

pub returns-in-Fulfilled-clause-stands : goal.returns-in-Fulfilled-clause-stands
returns-in-Fulfilled-clause-stands c = c.fulfilled_in.ensures.stands c.args.config.now

pub returns-in-Released-clause-stands : goal.returns-in-Released-clause-stands
returns-in-Released-clause-stands c = c.released_in.ensures.stands c.args.config.now
