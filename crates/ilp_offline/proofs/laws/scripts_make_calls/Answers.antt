use Rattle.ilp_offline.proofs.ScriptCalls.{lines_book, lines_allowed, lines_lawful}
use Rattle.ilp_offline.proofs.laws.scripts_make_calls.Goals as goal

pub returns : goal.returns
returns c = record { booked = lines_book; allowed = lines_allowed; lawful = lines_lawful }
