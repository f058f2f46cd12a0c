use Rattle.std.proofs.Common.{◌≡◌, refl, ap, ◌∙◌, rules, arith, subst, to_z, of_z}
use Rattle.std.specs.Prelude.{FitsSigned}
use Rattle.std.specs.Int.{w64}
use Rattle.std.proofs.lemmas.Int.{to_z-of_z}
use Rattle.ilp_packet.specs.Packet.{prepare, Spells}
use Rattle.ilp_replies.specs.Messages.{message_expiry, message_prepare}
use Rattle.ilp_replies.specs.EngineMessage.{peer_message}
use Rattle.ilp_workers.proofs.parts.Parts.begin_send.Goals as goal

-- the packet carries the message, and expires as it is to
pub returns : goal.returns
returns g c =
    let C = c.args.config.now in
    let now = c.now.result in
    let expires = c.message_expiry-expires.result in
    let packet = c.put_message.new.out.octets in
    let now_fits : FitsSigned w64 now = search rules in
    let fits : FitsSigned w64 expires = search rules in
    let is : to_z w64 (of_z w64 expires) ≡ message_expiry C now = to_z-of_z w64 expires fits ∙ (c.message_expiry-expires.ensures.value ∙ ap (message_expiry C) (to_z-of_z w64 now now_fits)) in
    record {
      addresses = record {
        within = omega (arith, c.if-octets-gt-MAX_MESSAGE.false);
        now = now;
        asked = c.now.ensures;
        packet = packet;
        message = c.new.ensures ∙ ap (peer_message c.args.peer packet) is;
        spelled = subst (λ e. Spells packet (prepare (message_prepare e c.args.octets.now))) is c.in-Ok.ensures;
        untouched = record { share = refl; records = refl; links = (refl, refl); seen = refl; kept = refl; reply_stays = refl; pending = refl };
      };
    }
