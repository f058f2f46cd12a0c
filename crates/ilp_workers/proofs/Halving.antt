-- Two halves make a forward.
use Rattle.std.proofs.Common.{ℕ, List, Option, None, inl, inr, refl, sym, ap, ◌∙◌, subst}
use Rattle.std.specs.Prelude.{Result, Ok, Err}
use Rattle.ilp_packet.specs.Packet.{PlainPrepare, prepare, Spells}
use Rattle.ilp_accounts.specs.Configuration.{Configuration}
use Rattle.ilp_book.specs.declared.calls.Held.{Held}
use Rattle.ilp_book.specs.declared.calls.Outcome.{Outcome}
use Rattle.ilp_book.specs.declared.fault.NotOpen.{NotOpen}
use Rattle.ilp_desk.specs.declared.record.Record.{Record}
use Rattle.ilp_desk.specs.Desk.{PlainDesk}
use Rattle.ilp_link_traits.specs.Links.{Tells, sending, messaging, messaged}
use Rattle.ilp_replies.specs.declared.answer.Receipt.{Receipt}
use Rattle.ilp_workers.specs.declared.reply_effect.ReplyEffect.{ReplyEffect}
use Rattle.ilp_workers.specs.declared.reply_effect.Told.{Told}
use Rattle.ilp_workers.specs.declared.in_flight.Begun.{Begun}
use Rattle.ilp_workers.specs.declared.in_flight.Begun.TheVariants.{Answered, Waits, Asks}
use Rattle.ilp_workers.specs.Worker.{PlainWorker, replied, Seat, seat_of}
use Rattle.ilp_workers.specs.Forwarding.{Order, order, IsEnded, IsSent, IsForwardedBy, Ends, effect_of}
use Rattle.ilp_replies.specs.Messages.{IsForEngine, engine_answer, IsMessageTold}
use Rattle.ilp_workers.specs.Messaging.{IsMessaged, IsEngineAnswer}
use Rattle.ilp_workers.specs.Arrivals.{Arrival, arrival, Forwards}
use Rattle.ilp_workers.specs.Pending.{PlainPending, waiting, held_prepare, told_order}
use Rattle.ilp_replies.specs.EngineMessage.{PlainEngineMessage}
use Rattle.ilp_workers.specs.MessageHalves.{IsAsked, IsEngineHanded}
use Rattle.ilp_workers.specs.Halves.{IsBegun, IsBegunBy, IsAskedBy, StartsWaiting, StartsAsking, Begins, IsHanded, IsFinished}

-- ---- the first half

-- a Prepare that is not for the engine here was begun
pub begun_for_peers : {J A : Type 0} (desk : PlainDesk) (from : ℕ) (octets : List ℕ) (packet : PlainPrepare) (before after : PlainWorker) (begun : Begun J A)
    → Spells octets (prepare packet) → (¬ IsForEngine packet) → IsBegunBy (order desk from packet) before after begun → Begins (arrival desk from octets) before after (Ok begun)
begun_for_peers desk from octets packet before after (Answered receipt) spells other begun =
    let o = order desk from packet in
    (packet, spells, inl (other, subst (λ h. IsForwardedBy o before after h receipt.answer receipt.rejected) (sym begun.1.0) (subst (λ a. IsForwardedBy o before after None a receipt.rejected) (sym begun.1.1) begun.0)), begun.1)
begun_for_peers desk from octets packet before after (Waits p) spells other begun = (packet, spells, other, begun)
begun_for_peers desk from octets packet before after (Asks m) spells other begun = absurd begun

-- and so was one that is
pub begun_for_engine : {J A : Type 0} (desk : PlainDesk) (from : ℕ) (octets : List ℕ) (packet : PlainPrepare) (before after : PlainWorker) (begun : Begun J A)
    → Spells octets (prepare packet) → IsForEngine packet → IsAskedBy desk.config from packet before after begun → Begins (arrival desk from octets) before after (Ok begun)
begun_for_engine desk from octets packet before after (Answered receipt) spells mine begun = (packet, spells, inr (mine, begun.0, begun.1), begun.1)
begun_for_engine desk from octets packet before after (Waits p) spells mine begun = absurd begun
begun_for_engine desk from octets packet before after (Asks m) spells mine begun = (packet, spells, mine, begun)

-- ---- both halves of a packet

-- how a hold ended is told by what is kept of its Prepare
same_ends : (o : Order) (held : Held) (c : ReplyEffect) (reply : Result Outcome NotOpen) (kept kept' : List Record) (told : Told) → Ends (told_order o.desk (held_prepare o held)) held c reply kept kept' told → Ends o held c reply kept kept' told
same_ends o held c (Err fault) kept kept' told ends = ends
same_ends o held c (Ok outcome) kept kept' told ends = ends

same_end : (o : Order) (held : Held) (c : ReplyEffect) (before after : Seat) (told : Told) (entry : Option ℕ)
    → IsEnded (told_order o.desk (held_prepare o held)) held c before after told entry → IsEnded o held c before after told entry
same_end o held c before after told entry ended = record {
  later = ended.later;
  reply = ended.reply;
  asked = ended.asked;
  booked = ended.booked;
  entry_is = ended.entry_is;
  raised = ended.raised;
  ends = same_ends o held c ended.reply before.records after.records told ended.ends;
  unkept = ended.unkept;
}

-- what began, was handed to the next peer and finished, was forwarded
pub forwarded_by_halves : (o : Order) (before begun handed after : PlainWorker) (p : PlainPending) (came : Option (List ℕ)) (receipt : Receipt) (octets : List ℕ)
    → IsBegun o before begun p → IsHanded p came begun handed → IsFinished o.desk p came handed after receipt octets
    → IsForwardedBy o before (replied after octets) receipt.hold receipt.answer receipt.rejected
forwarded_by_halves o before begun handed after p came receipt octets b hands finishes =
    let held = b.held in
    let q = waiting before.share.actor (held_prepare o held) b.octets in
    let h : IsHanded q came begun handed = subst (λ (x : PlainPending). IsHanded x came begun handed) b.waits hands in
    let f : IsFinished o.desk q came handed after receipt octets = subst (λ (x : PlainPending). IsFinished o.desk x came handed after receipt octets) b.waits finishes in
    let c = effect_of o.packet.condition came in
    let ended : IsEnded o held c (seat_of begun) f.left f.told receipt.answer =
    subst (λ (s : Seat). IsEnded o held c s f.left f.told receipt.answer) h.seat (same_end o held c (seat_of handed) f.left f.told receipt.answer f.ended) in
    let onto : Tells before.sent (sending held.to b.octets held.deadline came) after.sent =
    subst (λ s. Tells s (sending held.to b.octets held.deadline came) after.sent) b.links.0
    (subst (λ s. Tells begun.sent (sending held.to b.octets held.deadline came) s) (sym f.links.0) h.handed) in
    let sent : IsSent o before (replied after octets) held.number receipt.answer receipt.rejected = record {
      held = held;
      number = refl;
      between = seat_of begun;
      booked = b.booked;
      came = came;
      asked = record { octets = b.octets; spelled = b.spelled; handed = onto };
      told = f.told;
      left = f.left;
      ended = ended;
      kept_first = f.kept_first;
      engine = f.links.1 ∙ (h.engine ∙ b.links.1);
      reply = f.reply;
      named = f.named;
    } in
    subst (λ n. IsForwardedBy o before (replied after octets) n receipt.answer receipt.rejected) (sym f.hold) sent

-- and so were the octets that stand for it
pub forwards_by_halves : (a : Arrival) (before begun handed after : PlainWorker) (p : PlainPending) (came : Option (List ℕ)) (receipt : Receipt) (octets : List ℕ)
    → StartsWaiting a before begun p → IsHanded p came begun handed → IsFinished a.desk p came handed after receipt octets → Forwards a before (replied after octets) (Ok receipt)
forwards_by_halves a before begun handed after p came receipt octets b hands finishes =
    (b.0, b.1, inl (b.2, forwarded_by_halves (order a.desk a.from b.0) before begun handed after p came receipt octets b.3 hands finishes))

-- ---- both halves of a message

-- what was to be asked, was handed to the engine here and answered, was handed on
pub messaged_by_halves : (C : Configuration) (from : ℕ) (packet : PlainPrepare) (before asked handed : PlainWorker) (m : PlainEngineMessage) (came : Option (List ℕ)) (receipt : Receipt) (octets : List ℕ)
    → IsAsked C from packet before asked m → IsEngineHanded m came asked handed → IsMessageTold C came receipt octets → IsMessaged C from packet before (replied handed octets) receipt.rejected
messaged_by_halves C from packet before asked handed m came receipt octets a hands told =
    let same = a.untouched in
    let whole = messaged (messaging from packet.payload came) in
    let onto : Tells asked.engine whole handed.engine =
    subst (λ (x : PlainEngineMessage). Tells asked.engine (messaged (messaging x.from x.octets came)) handed.engine) a.message hands.handed in
    let engine : Tells before.engine whole handed.engine = subst (λ t. Tells t whole handed.engine) same.links.1 onto in
    record {
      now = a.now;
      asked = subst (λ t. Tells before.moments a.now t) (sym hands.moments) a.asked;
      answer = engine_answer came;
      answered = subst (λ r. IsEngineAnswer r from packet before.engine handed.engine (engine_answer came)) (sym a.passes) (inr (record { came = came; handed = engine; counts = refl }));
      reply = told.reply;
      named = ap (λ (r : Receipt). r.rejected) told.named;
      share = hands.share ∙ same.share;
      records = hands.records ∙ same.records;
      sent = hands.sent ∙ same.links.0;
      seen = hands.seen ∙ same.seen;
      kept = hands.kept ∙ same.kept;
    }

-- and so were the octets that stand for it
pub forwards_by_asking : (a : Arrival) (before asked handed : PlainWorker) (m : PlainEngineMessage) (came : Option (List ℕ)) (receipt : Receipt) (octets : List ℕ)
    → StartsAsking a before asked m → IsEngineHanded m came asked handed → IsMessageTold a.desk.config came receipt octets → Forwards a before (replied handed octets) (Ok receipt)
forwards_by_asking a before asked handed m came receipt octets b hands told =
    (b.0, b.1, inr (b.2, messaged_by_halves a.desk.config a.from b.0 before asked handed m came receipt octets b.3 hands told, (ap (λ (r : Receipt). r.hold) told.named, ap (λ (r : Receipt). r.answer) told.named)))
