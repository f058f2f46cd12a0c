use Rattle.std.proofs.Common.{◌≡◌, ◌∙◌, refl, subst, Ok, to_z-of_z}
use Rattle.std.specs.Prelude.{MatchOption, IsErr}
use Rattle.hex.specs.Hex.{decode_of}
use Rattle.ilp_packet.specs.Packet.{plain_prepare, prepare}
use Rattle.ilp_packet.specs.Reading.{reading}
use Rattle.ilp_book.specs.HoldStep.{growth_of}
use Rattle.ilp_offline.proofs.LineSteps.{hold_lines, on_denied}
use Rattle.ilp_offline.proofs.line.run_hold.Goals as goal

-- the text is the octets of a Prepare, and what the book answers it is replied
pub returns-in-Ok-Prepare-clause-step : goal.returns-in-Ok-Prepare-clause-step
returns-in-Ok-Prepare-clause-step g c =
    let p = plain_prepare c.in-Ok-Prepare.prepare in
    let decoded : decode_of c.args.packet.now ≡ Ok c.in-Some.octets.items
    = subst (λ o. MatchOption o (IsErr (decode_of c.args.packet.now)) (λ octets. decode_of c.args.packet.now ≡ Ok octets.items)) c.in-Some.is c.in_ok-octets.ensures in
    let read : reading c.in-Some.octets.items ≡ Ok (prepare p)
    = subst (λ xs. reading xs ≡ Ok (prepare p)) c.deref.ensures.value (c.in-Ok-Prepare.ensures.reading ∙ rw c.in-Ok-Prepare.field-0-is refl) in
    rw (decoded, read) (hold_lines c.args.book.now c.hold.new.self c.args.now _ c.args.peer p c.hold.result (growth_of c.hold.result) c.hold_reply.result (to_z-of_z c.ranges.now)
    c.hold_reply.ensures.reply c.hold_reply.ensures.granted c.hold.ensures.step)

-- where memory is denied the book is as before
pub returns-in-Ok-Prepare-clause-err : goal.returns-in-Ok-Prepare-clause-err
returns-in-Ok-Prepare-clause-err g c = on_denied _ c.hold_reply.result c.hold.result _ c.hold_reply.ensures.denied c.hold.ensures.err
