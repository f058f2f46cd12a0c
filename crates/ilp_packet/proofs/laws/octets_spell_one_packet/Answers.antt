use Rattle.ilp_packet.proofs.ReadingLemmas.{one_packet}
use Rattle.ilp_packet.proofs.laws.octets_spell_one_packet.Goals as goal

pub returns : goal.returns
returns c = one_packet
