use Rattle.std.proofs.Common.{◌+◌, refl, arith}
use Rattle.ilp_packet.specs.Packet.{plain_prepare, prepare}
use Rattle.ilp_packet.specs.Writing.{seventeen_zeros}
use Rattle.ilp_packet.proofs.WritingLemmas.{size_by_content}
use Rattle.ilp_packet.proofs.ContentLemmas.{fixed_prepare, length-prepare}
use Rattle.ilp_packet.proofs.writing.prepare_len.Goals as goal

pub returns-clause-size : goal.returns-clause-size
returns-clause-size c =
    size_by_content (prepare (plain_prepare c.args.packet.now)) (fixed_prepare + c.octets_len.result + c.octets_len-2.result)
    (omega (arith, (length-prepare seventeen_zeros (plain_prepare c.args.packet.now) refl c.requires.condition), c.octets_len.ensures, c.octets_len-2.ensures))
