use Rattle.ilp_replies.proofs.rejects.put_local_reject.Goals as goal

pub returns-in-AmountTooLarge-clause-packet : goal.returns-in-AmountTooLarge-clause-packet
returns-in-AmountTooLarge-clause-packet g c = rw c.in-AmountTooLarge.is c.put_with_payload.ensures.packet
