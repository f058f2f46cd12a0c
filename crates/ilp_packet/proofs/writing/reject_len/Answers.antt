use Rattle.std.proofs.Common.{◌+◌, arith}
use Rattle.ilp_packet.specs.Packet.{plain_reject, reject}
use Rattle.ilp_packet.proofs.WritingLemmas.{size_by_content}
use Rattle.ilp_packet.proofs.ContentLemmas.{length-reject}
use Rattle.ilp_packet.proofs.writing.reject_len.Goals as goal

pub returns-clause-size : goal.returns-clause-size
returns-clause-size c =
    size_by_content (reject (plain_reject c.args.packet.now)) (3 + (c.octets_len.result + c.octets_len-2.result) + c.octets_len-3.result)
    (omega (arith, (length-reject (plain_reject c.args.packet.now) c.requires.code), c.octets_len.ensures, c.octets_len-2.ensures, c.octets_len-3.ensures))
