use Rattle.ilp_packet.proofs.SpellingLemmas.{one_spelling, no_longer}
use Rattle.ilp_packet.proofs.WritingLemmas.{one_size}
use Rattle.ilp_packet.proofs.laws.packets_have_one_spelling.Goals as goal

pub returns-clause-one : goal.returns-clause-one
returns-clause-one c = one_spelling

pub returns-clause-size : goal.returns-clause-size
returns-clause-size c = one_size

pub returns-clause-ends : goal.returns-clause-ends
returns-clause-ends c = no_longer
