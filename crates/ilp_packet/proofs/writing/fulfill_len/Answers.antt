use Rattle.std.proofs.Common.{◌+◌, arith}
use Rattle.ilp_packet.specs.Packet.{plain_fulfill, fulfill}
use Rattle.ilp_packet.proofs.WritingLemmas.{size_by_content}
use Rattle.ilp_packet.proofs.ContentLemmas.{length-fulfill}
use Rattle.ilp_packet.proofs.writing.fulfill_len.Goals as goal

pub returns-clause-size : goal.returns-clause-size
returns-clause-size c =
    size_by_content (fulfill (plain_fulfill c.args.packet.now)) (32 + c.octets_len.result)
    (omega (arith, (length-fulfill (plain_fulfill c.args.packet.now) c.requires.preimage), c.octets_len.ensures))
