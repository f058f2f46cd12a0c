use Rattle.std.proofs.Common.{◌∙◌, arith}
use Rattle.ilp_replies.proofs.Rejecting.{fields_fit, alone_in_room}
use Rattle.ilp_replies.proofs.rejects.put_with_payload.Goals as goal

pub write_reject-requires : goal.write_reject-requires
write_reject-requires g c =
    (fields_fit _ _ _ _ _ _ c.peers.ensures.valid c.code.ensures (c.as_bytes.ensures.value ∙ c.address.ensures) (c.as_bytes-2.ensures.value ∙ c.message.ensures) c.requires.payload).0

pub unreachable-requires : goal.unreachable-requires
unreachable-requires g c =
    let fit = fields_fit _ _ _ _ _ _ c.peers.ensures.valid c.code.ensures (c.as_bytes.ensures.value ∙ c.address.ensures) (c.as_bytes-2.ensures.value ∙ c.message.ensures) c.requires.payload in
    let written = c.write_reject.ensures.enough (omega (arith, fit.1)) in
    let not_written = rw c.in_default.is at written in
    cc

pub returns-clause-room : goal.returns-clause-room
returns-clause-room g c =
    let fit = fields_fit _ _ _ _ _ _ c.peers.ensures.valid c.code.ensures (c.as_bytes.ensures.value ∙ c.address.ensures) (c.as_bytes-2.ensures.value ∙ c.message.ensures) c.requires.payload in
    let whole = alone_in_room _ _ _ _ c.write_reject.ensures (rw c.in-Ok.is cc) c.clear.ensures.octets (omega (arith, fit.1)) in
    omega (arith, whole)
