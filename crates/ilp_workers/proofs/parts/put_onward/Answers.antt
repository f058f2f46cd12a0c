use Rattle.std.proofs.Common.{ℤ, sym, subst, rules, to_z, of_z}
use Rattle.std.specs.Prelude.{◌≤◌, FitsSigned}
use Rattle.std.specs.Int.{w64}
use Rattle.std.proofs.lemmas.Int.{to_z-of_z}
use Rattle.ilp_packet.specs.Packet.{PlainPrepare, plain_prepare, prepare}
use Rattle.ilp_packet.specs.Writing.{size}
use Rattle.ilp_replies.proofs.Rejecting.{alone_in_room}
use Rattle.ilp_workers.proofs.parts.put_onward.Goals as goal

-- the Prepare takes of the room what it needs
pub returns-clause-room : goal.returns-clause-room
returns-clause-room g c =
    let held = c.args.held.now in
    let packet = plain_prepare c.args.packet.now in
    let Onward : ℤ → PlainPrepare = λ d. record { amount = held.out; expires = d; condition = packet.condition; destination = packet.destination; payload = packet.payload } in
    let fits : FitsSigned w64 held.deadline = search rules in
    let room : size (prepare (Onward (to_z w64 (of_z w64 held.deadline)))) ≤ c.args.out.now.spare =
    subst (λ d. size (prepare (Onward d)) ≤ c.args.out.now.spare) (sym (to_z-of_z w64 held.deadline fits)) c.requires.room in
    alone_in_room (prepare (Onward (to_z w64 (of_z w64 held.deadline)))) _ _ _ c.write_prepare.ensures (rw c.in-Ok.is cc) c.requires.cleared room
