use Rattle.ilp_packet.proofs.ReadingLemmas.{reading_again, reading_spelled, fault_of-spelled, spelled_without_fault}
use Rattle.ilp_packet.proofs.laws.readings_are_spellings.Goals as goal

pub returns-clause-spelled : goal.returns-clause-spelled
returns-clause-spelled c = reading_again

pub returns-clause-read : goal.returns-clause-read
returns-clause-read c = reading_spelled

pub returns-clause-no_fault : goal.returns-clause-no_fault
returns-clause-no_fault c = fault_of-spelled

pub returns-clause-no_other : goal.returns-clause-no_other
returns-clause-no_other c = spelled_without_fault
