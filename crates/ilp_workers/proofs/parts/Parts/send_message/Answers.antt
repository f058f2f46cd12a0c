use Rattle.std.proofs.Common.{refl, sym, ap, ◌∙◌, rules, arith, subst, to_z, of_z}
use Rattle.std.specs.Prelude.{FitsSigned, is_some}
use Rattle.std.specs.Int.{w64}
use Rattle.std.proofs.lemmas.Int.{to_z-of_z}
use Rattle.ilp_link_traits.specs.Links.{Tells, sending, came_of}
use Rattle.ilp_replies.specs.Messages.{message_expiry, peer_answer_of}
use Rattle.ilp_workers.specs.Messaging.{IsPassedOn}
use Rattle.ilp_replies.proofs.EngineMessages.{answer_came, no_answer_came}
use Rattle.ilp_workers.proofs.EngineMessages.{passed_on}
use Rattle.ilp_workers.proofs.parts.Parts.send_message.Goals as goal

-- an answer came
pub returns-then-reply-clause-messages : goal.returns-then-reply-clause-messages
returns-then-reply-clause-messages g c =
    let C = c.args.config.now in
    let now = c.now.result in
    let expires = c.message_expiry-expires.result in
    let reply = c.send-came.new.reply.octets in
    let now_fits : FitsSigned w64 now = search rules in
    let fits : FitsSigned w64 expires = search rules in
    let is = to_z-of_z w64 expires fits ∙ (c.message_expiry-expires.ensures.value ∙ ap (message_expiry C) (to_z-of_z w64 now now_fits)) in
    let handed = sending c.args.peer c.as_slice-packet.result.now (to_z w64 (of_z w64 expires)) (came_of c.send-came.result reply) in
    let learned : Tells (g.U.Uplink.told c.args.self.now.uplink) handed (g.U.Uplink.told c.note_reply.new.uplink) =
    subst (λ t. Tells (g.U.Uplink.told c.args.self.now.uplink) handed t) (sym c.note_reply.ensures) c.send-came.ensures in
    let passes = sym (ap (λ r. is_some (peer_answer_of (came_of c.send-came.result r))) c.as_slice.ensures) ∙ (sym c.message_reply-reply.ensures.answer ∙ c.if-reply.true) in
    let answered = answer_came c.send-came.result reply passes in
    let passed = passed_on C c.args.peer c.args.octets.now c.put_message.new.out.octets c.as_slice-packet.result.now now _ (g.U.Uplink.told c.args.self.now.uplink) (g.U.Uplink.told c.note_reply.new.uplink) (came_of c.send-came.result reply) is c.in-Ok.ensures c.as_slice-packet.ensures learned in
    record {
      within = omega (arith, c.if-octets-gt-MAX_MESSAGE.false);
      now = now;
      asked = c.now.ensures;
      over = (subst (λ came. IsPassedOn C c.args.peer c.args.octets.now now (g.U.Uplink.told c.args.self.now.uplink) (g.U.Uplink.told c.note_reply.new.uplink) came) answered.0 passed, answered.1);
      share = refl;
      records = refl;
      engine = refl;
      seen = refl;
      kept = refl;
    }

-- none came
pub returns-clause-messages : goal.returns-clause-messages
returns-clause-messages g c =
    let C = c.args.config.now in
    let now = c.now.result in
    let expires = c.message_expiry-expires.result in
    let reply = c.send-came.new.reply.octets in
    let came = came_of c.send-came.result reply in
    let now_fits : FitsSigned w64 now = search rules in
    let fits : FitsSigned w64 expires = search rules in
    let is = to_z-of_z w64 expires fits ∙ (c.message_expiry-expires.ensures.value ∙ ap (message_expiry C) (to_z-of_z w64 now now_fits)) in
    let handed = sending c.args.peer c.as_slice-packet.result.now (to_z w64 (of_z w64 expires)) (came_of c.send-came.result reply) in
    let learned : Tells (g.U.Uplink.told c.args.self.now.uplink) handed (g.U.Uplink.told c.note_reply.new.uplink) =
    subst (λ t. Tells (g.U.Uplink.told c.args.self.now.uplink) handed t) (sym c.note_reply.ensures) c.send-came.ensures in
    let fails = sym (ap (λ r. is_some (peer_answer_of (came_of c.send-came.result r))) c.as_slice.ensures) ∙ (sym c.message_reply-reply.ensures.answer ∙ c.if-reply.false) in
    let passed = passed_on C c.args.peer c.args.octets.now c.put_message.new.out.octets c.as_slice-packet.result.now now _ (g.U.Uplink.told c.args.self.now.uplink) (g.U.Uplink.told c.note_reply.new.uplink) came is c.in-Ok.ensures c.as_slice-packet.ensures learned in
    record {
      within = omega (arith, c.if-octets-gt-MAX_MESSAGE.false);
      now = now;
      asked = c.now.ensures;
      over = (came, passed, no_answer_came (peer_answer_of came) fails, c.clear-2.ensures.octets);
      share = refl;
      records = refl;
      engine = refl;
      seen = refl;
      kept = refl;
    }
