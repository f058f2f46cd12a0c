use Rattle.std.proofs.Common.{ap, refl, sym, subst, rules}
use Rattle.std.specs.Prelude.{FitsSigned, Err}
use Rattle.std.specs.Int.{w64}
use Rattle.std.proofs.lemmas.Int.{to_z-of_z}
use Rattle.ilp_packet.specs.Packet.{plain_prepare}
use Rattle.ilp_link_traits.specs.Links.{Tells}
use Rattle.ilp_replies.specs.Messages.{message_refusal, IsWhyRefused}
use Rattle.ilp_workers.proofs.EngineMessages.{kept_back}
use Rattle.ilp_workers.proofs.parts.Parts.begin_message.Goals as goal

-- the message is refused
pub returns-in-Err-clause-begun : goal.returns-in-Err-clause-begun
returns-in-Err-clause-begun g c =
    let C = c.args.config.now in
    let packet = plain_prepare c.args.packet.now in
    let now = c.now-now.result in
    let why = c.in-Err.why in
    let fits : FitsSigned w64 now = search rules in
    let refused : IsWhyRefused (message_refusal C c.args.from now packet) why =
    subst (λ t. IsWhyRefused (message_refusal C c.args.from t packet) why) (to_z-of_z w64 now fits) c.in-Err.ensures.err in
    let told = g.E.EngineLink.told in
    rw c.unbooked.ensures (
      record {
        now = now;
        asked = subst (λ k. Tells (g.C.Clock.told c.args.self.now.clock) now (g.C.Clock.told k)) (sym c.reject.ensures.clock) c.now-now.ensures;
        answer = Err why;
        answered = kept_back (message_refusal C c.args.from now packet) why c.args.from packet (told c.args.self.now.engine) (told c.reject.new.self.engine) refused (ap told c.reject.ensures.links.1);
        reply = c.reject.ensures.told;
        named = refl;
        share = c.reject.ensures.share;
        records = ap (λ r. r.items) c.reject.ensures.records;
        sent = ap g.U.Uplink.told c.reject.ensures.links.0;
        seen = c.reject.ensures.kept.0;
        kept = ap g.K.Keeper.told c.reject.ensures.kept.1;
      },
      (refl, refl),
    )
