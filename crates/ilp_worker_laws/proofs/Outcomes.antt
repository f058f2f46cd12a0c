-- A forward ends by a Fulfill that the worker keeps, or by a Reject.
use Rattle.std.proofs.Common.{◌≡◌, ℕ, ◌+◌, Bool, true, false, List, [], ◌∷◌, ◌++◌, Option, Some, None, ◌⊎◌, inl, inr, refl, sym, ap, ◌∙◌, subst, arith}
use Rattle.std.specs.Prelude.{Result, Ok, Err, if◌then◌else◌}
use Rattle.std.proofs.lemmas.List.Sums.{sum_by-append}
use Rattle.ilp_oer.specs.Octets.{AreOctets}
use Rattle.ilp_terms.specs.Condition.{meets}
use Rattle.ilp_packet.specs.declared.fault.PacketFault.{PacketFault}
use Rattle.ilp_packet.specs.Packet.{PlainPacket, PlainPrepare, PlainFulfill, PlainReject, prepare, fulfill, reject, Spells}
use Rattle.ilp_packet.specs.Reading.{reading}
use Rattle.ilp_packet.proofs.ReadingLemmas.{reading_spelled}
use Rattle.ilp_journal.specs.declared.entry.Cause.{Cause}
use Rattle.ilp_journal.specs.declared.entry.Cause.TheVariants as cause
use Rattle.ilp_book.specs.declared.calls.PeerReply.TheVariants as peer_reply
use Rattle.ilp_book.specs.declared.calls.Held.{Held}
use Rattle.ilp_book.specs.declared.calls.Outcome.{Outcome}
use Rattle.ilp_book.specs.declared.fault.NotOpen.{NotOpen}
use Rattle.ilp_desk.specs.declared.record.Record.{Record}
use Rattle.ilp_desk.specs.declared.record.HoldEnd.TheVariants.{Fulfilled, Released}
use Rattle.ilp_desk.specs.Desk.{PlainDesk}
use Rattle.ilp_desk.specs.Portion.{Portion, portion}
use Rattle.ilp_desk.specs.Totals.{packets, of_packet}
use Rattle.ilp_replies.specs.declared.answer.Receipt.{Receipt}
use Rattle.ilp_replies.specs.declared.rejects.LocalReject.{LocalReject}
use Rattle.ilp_replies.specs.declared.rejects.LocalReject.TheVariants as local
use Rattle.ilp_replies.specs.declared.rejects.ToldReject.{ToldReject}
use Rattle.ilp_replies.specs.declared.rejects.ToldReject.TheVariants.{Own, Peer}
use Rattle.ilp_workers.specs.declared.reply_effect.ReplyEffect.{ReplyEffect}
use Rattle.ilp_workers.specs.declared.reply_effect.Told.{Told}
use Rattle.ilp_workers.specs.declared.reply_effect.Told.TheVariants.{Fulfill, Reject}
use Rattle.ilp_replies.specs.Rejects.{local_reject, told_code}
use Rattle.ilp_workers.specs.Worker.{PlainWorker, Seat, seat_of}
use Rattle.ilp_workers.specs.Arrivals.{Arrival, IsForPeers, Forwards}
use Rattle.ilp_workers.specs.Forwarding.{Order, order, KeepsFirst, IsTold, reject_told, Ends, EndsLate, end_of, entry_of, count_of, IsSent, IsForwardedBy, effect, effect_of, effect_of_packet, record_of_end}
use Rattle.ilp_workers.specs.Pending.{PlainPending, told_order}
use Rattle.ilp_workers.specs.Booked.{PlainBooked}
use Rattle.ilp_workers.specs.Halves.{IsBooked, IsFinished}
use Rattle.ilp_worker_laws.specs.Outcome.{IsFulfilled, IsRejected, IsFulfilledEnd, IsRejectedEnd}

-- ---- packets

-- a released hold is no packet
released_kept : (o : Order) (held : Held) (c : Cause) (entry : ℕ) (kept kept' : List Record) → kept' ≡ kept ++ record_of_end o held (Released c) entry ∷ [] → packets kept' ≡ packets kept
released_kept o held c entry kept kept' is =
    let f = λ (r : Record). of_packet (λ _. 1) r.what in
    ap packets is ∙ (sum_by-append f kept (record_of_end o held (Released c) entry ∷ []) ∙ omega arith)

-- ---- what the sender is told

-- These octets are a Fulfill that meets the condition, and the record of this fulfilled hold is kept.
record IsPaid (o : Order) (held : Held) (entry : ℕ) (kept kept' : List Record) (rejected : Option ToldReject) (octets : List ℕ) : Type 0 where
  answer : PlainFulfill
  reply : Spells octets (fulfill answer)
  met : meets o.packet.condition answer.preimage ≡ true
  unrejected : rejected ≡ None
  records : kept' ≡ kept ++ record_of_end o held Fulfilled entry ∷ []

-- These octets are a Reject, which is named, and as many packets are kept as before.
record IsUnpaid (kept kept' : List Record) (rejected : Option ToldReject) (octets : List ℕ) : Type 0 where
  answer : PlainReject
  reply : Spells octets (reject answer)
  told : ToldReject
  named : rejected ≡ Some told
  code : answer.code ≡ told_code told
  records : packets kept' ≡ packets kept

-- what is passed on stands for the packet that came
passed_spells : (octets reply : List ℕ) (packet : PlainPacket) → AreOctets reply → reading octets ≡ Ok packet → Some octets ≡ Some reply → Spells reply packet
passed_spells octets reply packet are read came =
    let same : octets ≡ reply = cc in
    reading_spelled reply packet are (ap reading (sym same) ∙ read)

-- ---- a hold that ended by what came back

-- what a Fulfill comes to, by whether its preimage meets the condition
abbrev effect_if : List ℕ → Bool → ReplyEffect
effect_if preimage b = if b then effect (peer_reply.Fulfill preimage) Fulfilled Fulfill else effect peer_reply.BadFulfill (Released cause.WrongPreimage) (Reject (Own local.WrongCondition))

module _ (o : Order) (held : Held) (kept kept' : List Record) (told : Told) (rejected : Option ToldReject) (octets : List ℕ) (are : AreOctets octets) (named : rejected ≡ reject_told told) where
  -- the worker keeps what the reply comes to, and the sender is told it
  abbrev Closed : ℕ → ReplyEffect → Type 0
  Closed entry c = (told ≡ c.told) × (kept' ≡ kept ++ record_of_end o held c.ended entry ∷ [])

  abbrev IsOneOf : ℕ → Type 0
  IsOneOf entry = IsPaid o held entry kept kept' rejected octets ⊎ IsUnpaid kept kept' rejected octets

  -- a Reject of the connector's own
  own : (came : Option (List ℕ)) (why : LocalReject) → IsTold o.desk.config came told octets → told ≡ Reject (Own why) → packets kept' ≡ packets kept → IsUnpaid kept kept' rejected octets
  own came why is_told is same = record {
    answer = local_reject o.desk.config why;
    reply = subst (λ t. IsTold o.desk.config came t octets) is is_told;
    told = Own why;
    named = named ∙ ap reject_told is;
    code = refl;
    records = same;
  }

  released : (entry : ℕ) (came : Option (List ℕ)) (c : Cause) (why : LocalReject) → IsTold o.desk.config came told octets → told ≡ Reject (Own why)
      → kept' ≡ kept ++ record_of_end o held (Released c) entry ∷ [] → IsOneOf entry
  released entry came c why is_told is closed = inr (own came why is_told is (released_kept o held c entry kept kept' closed))

  by_fulfill : (entry : ℕ) (came : List ℕ) (f : PlainFulfill) (b : Bool) → reading came ≡ Ok (fulfill f) → meets o.packet.condition f.preimage ≡ b
      → IsTold o.desk.config (Some came) told octets → Closed entry (effect_if f.preimage b) → IsOneOf entry
  by_fulfill entry came f true read met is_told closed =
      inl (record {
        answer = f;
        reply = passed_spells came octets (fulfill f) are read (subst (λ t. IsTold o.desk.config (Some came) t octets) closed.0 is_told);
        met = met;
        unrejected = named ∙ ap reject_told closed.0;
        records = closed.1;
      })
  by_fulfill entry came f false read met is_told closed = released entry (Some came) cause.WrongPreimage local.WrongCondition is_told closed.0 closed.1

  by_packet : (entry : ℕ) (came : List ℕ) (r : Result PlainPacket PacketFault) → reading came ≡ r → IsTold o.desk.config (Some came) told octets → Closed entry (effect_of_packet o.packet.condition r) → IsOneOf entry
  by_packet entry came (Err fault) read is_told closed = released entry (Some came) cause.NoReply local.PeerUnreachable is_told closed.0 closed.1
  by_packet entry came (Ok (prepare p)) read is_told closed = released entry (Some came) cause.NoReply local.PeerUnreachable is_told closed.0 closed.1
  by_packet entry came (Ok (fulfill f)) read is_told closed = by_fulfill entry came f (meets o.packet.condition f.preimage) read refl is_told closed
  by_packet entry came (Ok (reject r)) read is_told closed =
      inr (record {
        answer = r;
        reply = passed_spells came octets (reject r) are read (subst (λ t. IsTold o.desk.config (Some came) t octets) closed.0 is_told);
        told = Peer r.code;
        named = named ∙ ap reject_told closed.0;
        code = refl;
        records = released_kept o held (cause.Peer r.code) entry kept kept' closed.1;
      })

  in_time : (entry : ℕ) (came : Option (List ℕ)) → IsTold o.desk.config came told octets → Closed entry (effect_of o.packet.condition came) → IsOneOf entry
  in_time entry (Some came) is_told closed = by_packet entry came (reading came) refl is_told closed
  in_time entry None is_told closed = released entry None cause.NoReply local.PeerUnreachable is_told closed.0 closed.1

  -- an end that nothing is kept of
  over : (came : Option (List ℕ)) → IsTold o.desk.config came told octets → EndsLate kept kept' told → IsUnpaid kept kept' rejected octets
  over came is_told ends = own came local.TransferTimedOut is_told ends.0 (ap packets ends.1)

  -- a Fulfill that is kept, by this entry, or a Reject
  outcome_of : (came : Option (List ℕ)) (entry : Option ℕ) (reply : Result Outcome NotOpen) → IsTold o.desk.config came told octets
      → Ends o held (effect_of o.packet.condition came) reply kept kept' told → entry_of reply ≡ entry
      → ((n : ℕ) × (entry ≡ Some n) × IsPaid o held n kept kept' rejected octets) ⊎ IsUnpaid kept kept' rejected octets
  outcome_of came entry (Err fault) is_told ends is = inr (over came is_told ends)
  outcome_of came entry (Ok outcome) is_told ends is =
      elim ends [
        | inl counted ↦
            elim (in_time (end_of outcome).0 came is_told counted.1) [
              | inl paid ↦ inl ((end_of outcome).0, sym is, paid)
              | inr other ↦ inr other
            ]
        | inr ended ↦ inr (over came is_told ended.1)
      ]

-- what is kept before the sender is told changes neither the share nor the records
kept_first_stays : (told : Told) (before after : Seat) → KeepsFirst told before after → (after.share ≡ before.share) × (after.records ≡ before.records)
kept_first_stays Fulfill before after kept = (kept.1.share, kept.1.records)
kept_first_stays (Reject r) before after same = (ap (λ (s : Seat). s.share) same, ap (λ (s : Seat). s.records) same)

-- ---- a packet that was finished, or booked

pub finished_outcome : (desk : PlainDesk) (p : PlainPending) (came : Option (List ℕ)) (before after : PlainWorker) (receipt : Receipt) (octets : List ℕ) → AreOctets octets
    → IsFinished desk p came before after receipt octets → IsFulfilledEnd desk p before after receipt octets ⊎ IsRejectedEnd before after receipt octets
finished_outcome desk p came before after receipt octets are f =
    let o = told_order desk p.prepare in
    let stays = kept_first_stays f.told f.left (seat_of after) f.kept_first in
    let ends : Ends o p.prepare.held (effect_of p.prepare.condition came) f.ended.reply before.records after.records f.told =
    subst (λ kept. Ends o p.prepare.held (effect_of p.prepare.condition came) f.ended.reply before.records kept f.told) (sym stays.1) f.ended.ends in
    elim (outcome_of o p.prepare.held before.records after.records f.told receipt.rejected octets are f.named came receipt.answer f.ended.reply f.reply ends f.ended.entry_is) [
      | inl paid ↦
          inl (record {
            entry = paid.0;
            answer = paid.2.answer;
            reply = paid.2.reply;
            met = paid.2.met;
            holds = f.hold;
            answers = paid.1;
            unrejected = paid.2.unrejected;
            raised = stays.0 ∙ (f.ended.raised ∙ ap (λ x. portion before.share.actor (before.share.entries + count_of x)) paid.1);
            records = paid.2.records;
          })
      | inr other ↦ inr (record { answer = other.answer; reply = other.reply; told = other.told; named = other.named; code = other.code; records = other.records })
    ]

pub booked_outcome : (desk : PlainDesk) (p : PlainPending) (came : Option (List ℕ)) (before after : PlainWorker) (b : PlainBooked) → AreOctets b.octets
    → IsBooked desk p came before after b → IsFulfilledEnd desk p before after b.receipt b.octets ⊎ IsRejectedEnd before after b.receipt b.octets
booked_outcome desk p came before after b are f =
    elim (outcome_of (told_order desk p.prepare) p.prepare.held before.records after.records f.told b.receipt.rejected b.octets are f.named came b.receipt.answer f.ended.reply f.reply f.ended.ends f.ended.entry_is) [
      | inl paid ↦
          inl (record {
            entry = paid.0;
            answer = paid.2.answer;
            reply = paid.2.reply;
            met = paid.2.met;
            holds = f.hold;
            answers = paid.1;
            unrejected = paid.2.unrejected;
            raised = f.ended.raised ∙ ap (λ x. portion before.share.actor (before.share.entries + count_of x)) paid.1;
            records = paid.2.records;
          })
      | inr other ↦ inr (record { answer = other.answer; reply = other.reply; told = other.told; named = other.named; code = other.code; records = other.records })
    ]

-- ---- a Prepare that was forwarded

raised_by_two : (first last mid : Portion) → mid ≡ portion first.actor (first.entries + 1) → last ≡ portion mid.actor (mid.entries + 1) → last ≡ portion first.actor (first.entries + 2)
raised_by_two first last mid one two =
    let sum : first.entries + 1 + 1 ≡ first.entries + 2 = omega arith in
    two ∙ (ap (λ (s : Portion). portion s.actor (s.entries + 1)) one ∙ ap (portion first.actor) sum)

sent_outcome : (a : Arrival) (packet : PlainPrepare) (before after : PlainWorker) (receipt : Receipt) (hold : ℕ) (answer : Option ℕ) → AreOctets after.reply → Spells a.octets (prepare packet)
    → receipt.hold ≡ Some hold → receipt.answer ≡ answer → IsSent (order a.desk a.from packet) before after hold answer receipt.rejected → IsFulfilled a before after receipt ⊎ IsRejected before after receipt
sent_outcome a packet before after receipt hold answer are came holds answers sent =
    let o = order a.desk a.from packet in
    let stays = kept_first_stays sent.told sent.left (seat_of after) sent.kept_first in
    let left : Ends o sent.held (effect_of packet.condition sent.came) sent.ended.reply sent.between.records after.records sent.told =
    subst (λ kept. Ends o sent.held (effect_of packet.condition sent.came) sent.ended.reply sent.between.records kept sent.told) (sym stays.1) sent.ended.ends in
    let ends : Ends o sent.held (effect_of packet.condition sent.came) sent.ended.reply before.records after.records sent.told =
    subst (λ kept. Ends o sent.held (effect_of packet.condition sent.came) sent.ended.reply kept after.records sent.told) sent.booked.records left in
    elim (outcome_of o sent.held before.records after.records sent.told receipt.rejected after.reply are sent.named sent.came answer sent.ended.reply sent.reply ends sent.ended.entry_is) [
      | inl paid ↦
          inl (record {
            packet = packet;
            held = sent.held;
            entry = paid.0;
            answer = paid.2.answer;
            came = came;
            reply = paid.2.reply;
            met = paid.2.met;
            holds = holds ∙ ap Some (sym sent.number);
            answers = answers ∙ paid.1;
            unrejected = paid.2.unrejected;
            raised = raised_by_two before.share after.share sent.between.share sent.booked.raised (stays.0 ∙ (sent.ended.raised ∙ ap (λ x. portion sent.between.share.actor (sent.between.share.entries + count_of x)) paid.1));
            records = paid.2.records;
          })
      | inr other ↦ inr (record { answer = other.answer; reply = other.reply; told = other.told; named = other.named; code = other.code; records = other.records })
    ]

pub forwarded_outcome : (a : Arrival) (before after : PlainWorker) (receipt : Receipt) → AreOctets after.reply → IsForPeers a → Forwards a before after (Ok receipt)
    → IsFulfilled a before after receipt ⊎ IsRejected before after receipt
forwarded_outcome a before after receipt are for_peers forwards =
    elim forwards.2 [ inl forwarded ↦ of receipt.hold receipt.answer refl refl forwarded.1 | inr messaged ↦ absurd (for_peers forwards.0 forwards.1 messaged.0) ]
  where
    of : (hold answer : Option ℕ) → receipt.hold ≡ hold → receipt.answer ≡ answer → IsForwardedBy (order a.desk a.from forwards.0) before after hold answer receipt.rejected → IsFulfilled a before after receipt ⊎ IsRejected before after receipt
    of None None holds answers refused =
        inr (record { answer = local_reject a.desk.config refused.why; reply = refused.told; told = Own refused.why; named = refused.named; code = refl; records = ap packets refused.records })
    of None (Some n) holds answers none = absurd none
    of (Some hold) answer holds answers sent = sent_outcome a forwards.0 before after receipt hold answer are forwards.1 holds answers sent
