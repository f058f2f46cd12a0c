-- What is counted as one ends.
use Rattle.std.proofs.Common.{◌≡◌, ◌≢◌, ℕ, ◌+◌, ◌-◌, List, ◌∷◌, ◌++◌, length, Some, slice_get, sym, ap, ◌∙◌, subst, arith, inl, inr}
use Rattle.std.specs.Prelude.{◌==◌, if◌then◌else◌, slice_set}
use Rattle.std.proofs.lemmas.List.{length-append}
use Rattle.ilp_flow.specs.declared.passage.Passage.{Passage}
use Rattle.ilp_flow.specs.declared.flow.Flow.{Flow}
use Rattle.ilp_flow.specs.declared.flow.OfSender.{OfSender}
use Rattle.ilp_flow.specs.Flow.{sent_by, bound_for, octets_in, octets_by, part_of, room_of}
use Rattle.ilp_flow.specs.Counts.{HasCounts, IsOf, without_one}
use Rattle.ilp_flow.proofs.Counting.{sum_in_front, sent_by_own, sent_by_other, bound_for_own, bound_for_other, octets_by_own, octets_by_other, octets_in_more, get_written}

-- ---- wherever one stands, the numbers are those with it in front

sent_in_front : (sender : ℕ) (before after : List Passage) (p : Passage) → sent_by sender (before ++ p ∷ after) ≡ sent_by sender (p ∷ (before ++ after))
sent_in_front sender = sum_in_front (λ (q : Passage). if q.sender == sender then 1 else 0)

bound_in_front : (receiver : ℕ) (before after : List Passage) (p : Passage) → bound_for receiver (before ++ p ∷ after) ≡ bound_for receiver (p ∷ (before ++ after))
bound_in_front receiver = sum_in_front (λ (q : Passage). if q.receiver == receiver then 1 else 0)

octets_by_in_front : (sender : ℕ) (before after : List Passage) (p : Passage) → octets_by sender (before ++ p ∷ after) ≡ octets_by sender (p ∷ (before ++ after))
octets_by_in_front sender = sum_in_front (λ (q : Passage). if q.sender == sender then q.octets else 0)

octets_in_front : (before after : List Passage) (p : Passage) → octets_in (before ++ p ∷ after) ≡ octets_in (p ∷ (before ++ after))
octets_in_front = sum_in_front (λ (q : Passage). q.octets)

pub length_in_front : (before after : List Passage) (p : Passage) → length (before ++ p ∷ after) ≡ 1 + length (before ++ after)
length_in_front before after p = omega (arith, length-append before (p ∷ after), length-append before after)

in_front : (f : Flow) (before after begun : List Passage) (p : Passage) → HasCounts f (before ++ p ∷ after) begun → HasCounts f (p ∷ (before ++ after)) begun
in_front f before after begun p counts = record {
  few = counts.few;
  part = counts.part;
  room = counts.room;
  in_all = omega (arith, counts.in_all, length_in_front before after p);
  octets = counts.octets ∙ octets_in_front before after p;
  turns = counts.turns;
  of_senders = λ k of at. let is = counts.of_senders k of at in record {
    sent = is.sent ∙ sent_in_front k before after p;
    octets = is.octets ∙ octets_by_in_front k before after p;
    turn = is.turn;
  };
  of_receivers = λ k count at. counts.of_receivers k count at ∙ bound_in_front k before after p;
}

-- ---- the first ends

-- The one flow is the other with the numbers of one less.
pub record IsTaken (f g : Flow) (p : Passage) (old new : OfSender) (was count : ℕ) : Type 0 where
  pub most : g.most ≡ f.most
  pub part : g.part ≡ f.part
  pub room : g.room ≡ f.room
  pub flying : g.flying ≡ f.flying - 1
  pub octets : g.octets ≡ f.octets - p.octets
  pub turns : g.begun ≡ f.begun
  pub has_old : slice_get f.senders.items p.sender ≡ Some old
  pub of_sender : new ≡ without_one old p.octets
  pub senders : g.senders.items ≡ slice_set f.senders.items p.sender new
  pub was_count : slice_get f.receivers.items p.receiver ≡ Some was
  pub of_receiver : count ≡ was - 1
  pub receivers : g.receivers.items ≡ slice_set f.receivers.items p.receiver count

taken_sender : (f : Flow) (p : Passage) (flying begun : List Passage) (old : OfSender) → HasCounts f (p ∷ flying) begun → slice_get f.senders.items p.sender ≡ Some old
    → (k : ℕ) (of : OfSender) → slice_get (slice_set f.senders.items p.sender (without_one old p.octets)) k ≡ Some of → IsOf k of flying begun
taken_sender f p flying begun old counts had k of at = elim (get_written f.senders.items p.sender (without_one old p.octets) k of at) [
  | inl same ↦
      let is = counts.of_senders p.sender old had in
      let own : IsOf p.sender (without_one old p.octets) flying begun = record {
        sent = omega (arith, is.sent, sent_by_own p flying);
        octets = omega (arith, is.octets, octets_by_own p flying);
        turn = is.turn;
      } in
      subst (λ (j : ℕ). IsOf j of flying begun) (sym same.0) (subst (λ (it : OfSender). IsOf p.sender it flying begun) (sym same.1) own)
  | inr other ↦
      let is = counts.of_senders k of other.1 in
      let differ : p.sender ≢ k = λ e. other.0 (sym e) in
      record {
        sent = omega (arith, is.sent, sent_by_other k p flying differ);
        octets = omega (arith, is.octets, octets_by_other k p flying differ);
        turn = is.turn;
      }
]

taken_receiver : (f : Flow) (p : Passage) (flying begun : List Passage) (was count : ℕ) → HasCounts f (p ∷ flying) begun → slice_get f.receivers.items p.receiver ≡ Some was → count ≡ was - 1
    → (k it : ℕ) → slice_get (slice_set f.receivers.items p.receiver count) k ≡ Some it → it ≡ bound_for k flying
taken_receiver f p flying begun was count counts had is k it at = elim (get_written f.receivers.items p.receiver count k it at) [
  | inl same ↦ subst (λ (j : ℕ). it ≡ bound_for j flying) (sym same.0) (omega (arith, same.1, is, counts.of_receivers p.receiver was had, bound_for_own p flying))
  | inr other ↦ omega (arith, counts.of_receivers k it other.1, bound_for_other k p flying (λ e. other.0 (sym e)))
]

first_ends : (f g : Flow) (p : Passage) (flying begun : List Passage) (old new : OfSender) (was count : ℕ) → HasCounts f (p ∷ flying) begun → IsTaken f g p old new was count → HasCounts g flying begun
first_ends f g p flying begun old new was count counts taken = record {
  few = omega (arith, taken.most, counts.few);
  part = taken.part ∙ (counts.part ∙ ap part_of (sym taken.most));
  room = taken.room ∙ (counts.room ∙ ap room_of (sym taken.most));
  in_all = omega (arith, taken.flying, counts.in_all);
  octets = omega (arith, taken.octets, counts.octets, octets_in_more p flying);
  turns = taken.turns ∙ counts.turns;
  of_senders = subst (λ (xs : List OfSender). (k : ℕ) (of : OfSender) → slice_get xs k ≡ Some of → IsOf k of flying begun) (sym (taken.senders ∙ ap (slice_set f.senders.items p.sender) taken.of_sender)) (taken_sender f p flying begun old counts taken.has_old);
  of_receivers = subst (λ (xs : List ℕ). (k it : ℕ) → slice_get xs k ≡ Some it → it ≡ bound_for k flying) (sym taken.receivers) (taken_receiver f p flying begun was count counts taken.was_count taken.of_receiver);
}

-- one of those in flight ends
pub ends : (f g : Flow) (p : Passage) (before after begun : List Passage) (old new : OfSender) (was count : ℕ) → HasCounts f (before ++ p ∷ after) begun → IsTaken f g p old new was count → HasCounts g (before ++ after) begun
ends f g p before after begun old new was count counts taken = first_ends f g p (before ++ after) begun old new was count (in_front f before after begun p counts) taken
