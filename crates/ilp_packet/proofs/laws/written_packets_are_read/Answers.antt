use Rattle.ilp_packet.proofs.WritingLemmas.{written_is_read, only_packet}
use Rattle.ilp_packet.proofs.laws.written_packets_are_read.Goals as goal

pub returns-clause-read : goal.returns-clause-read
returns-clause-read c = written_is_read

pub returns-clause-found : goal.returns-clause-found
returns-clause-found c = only_packet
