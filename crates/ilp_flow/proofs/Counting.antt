-- What is counted as one more begins, and as one ends.
use Rattle.std.proofs.Common.{◌≡◌, ◌≢◌, ℕ, zero, suc, ◌+◌, ◌-◌, ◌^◌, ◌<◌, ◌≤◌, min, Bool, true, false, cond, List, [], ◌∷◌, ◌++◌, length, Some, slice_get, refl, sym, ap, ◌∙◌, subst, arith, ◌⊎◌, inl, inr}
use Rattle.std.specs.Prelude.{◌==◌, if◌then◌else◌, slice_set, sum_by, count_by}
use Rattle.std.proofs.lemmas.Bool.Decides.{nat_tests}
use Rattle.std.proofs.lemmas.List.{length_push}
use Rattle.std.proofs.lemmas.List.Sums.{sum_by-cons, sum_by-append}
use Rattle.ilp_flow.specs.declared.passage.Passage.{Passage}
use Rattle.ilp_flow.specs.declared.flow.Flow.{Flow}
use Rattle.ilp_flow.specs.declared.flow.OfSender.{OfSender}
use Rattle.ilp_flow.specs.Flow.{part_of, room_of, sent_by, bound_for, octets_in, octets_by, MayBegin, last_turn_from, LAST_TURN}
use Rattle.ilp_flow.specs.Counts.{HasCounts, IsOf, with_one}

-- ---- sums with one more

pub same_is : (n : ℕ) → (n == n) ≡ true
same_is n = grind (arith, nat_tests)

pub other_is : (m n : ℕ) → m ≢ n → (m == n) ≡ false
other_is m n differ = grind (arith, nat_tests)

-- wherever one stands, the sum is that with it in front
pub sum_in_front : (f : Passage → ℕ) (before after : List Passage) (p : Passage) → sum_by f (before ++ p ∷ after) ≡ sum_by f (p ∷ (before ++ after))
sum_in_front f before after p = omega (arith, sum_by-append f before (p ∷ after), sum_by-cons f p after, sum_by-cons f p (before ++ after), sum_by-append f before after)

-- one more for which the test is true, or isn't
count_of : (test : Passage → Bool) (p : Passage) (flying : List Passage) (b : Bool) → test p ≡ b → count_by test (p ∷ flying) ≡ cond b 1 0 + count_by test flying
count_of test p flying b is = subst (λ (it : Bool). count_by test (p ∷ flying) ≡ cond it 1 0 + count_by test flying) is (sum_by-cons (λ (q : Passage). cond (test q) 1 0) p flying)

pub sent_by_own : (p : Passage) (flying : List Passage) → sent_by p.sender (p ∷ flying) ≡ 1 + sent_by p.sender flying
sent_by_own p flying = count_of (λ (q : Passage). q.sender == p.sender) p flying true (same_is p.sender)

pub sent_by_other : (sender : ℕ) (p : Passage) (flying : List Passage) → p.sender ≢ sender → sent_by sender (p ∷ flying) ≡ 0 + sent_by sender flying
sent_by_other sender p flying other = count_of (λ (q : Passage). q.sender == sender) p flying false (other_is p.sender sender other)

pub bound_for_own : (p : Passage) (flying : List Passage) → bound_for p.receiver (p ∷ flying) ≡ 1 + bound_for p.receiver flying
bound_for_own p flying = count_of (λ (q : Passage). q.receiver == p.receiver) p flying true (same_is p.receiver)

pub bound_for_other : (receiver : ℕ) (p : Passage) (flying : List Passage) → p.receiver ≢ receiver → bound_for receiver (p ∷ flying) ≡ 0 + bound_for receiver flying
bound_for_other receiver p flying other = count_of (λ (q : Passage). q.receiver == receiver) p flying false (other_is p.receiver receiver other)

octets_of : (sender : ℕ) (p : Passage) (flying : List Passage) (b : Bool) → (p.sender == sender) ≡ b → octets_by sender (p ∷ flying) ≡ cond b p.octets 0 + octets_by sender flying
octets_of sender p flying b is = subst (λ (it : Bool). octets_by sender (p ∷ flying) ≡ cond it p.octets 0 + octets_by sender flying) is (sum_by-cons (λ (q : Passage). cond (q.sender == sender) q.octets 0) p flying)

pub octets_by_own : (p : Passage) (flying : List Passage) → octets_by p.sender (p ∷ flying) ≡ p.octets + octets_by p.sender flying
octets_by_own p flying = octets_of p.sender p flying true (same_is p.sender)

pub octets_by_other : (sender : ℕ) (p : Passage) (flying : List Passage) → p.sender ≢ sender → octets_by sender (p ∷ flying) ≡ 0 + octets_by sender flying
octets_by_other sender p flying other = octets_of sender p flying false (other_is p.sender sender other)

pub octets_in_more : (p : Passage) (flying : List Passage) → octets_in (p ∷ flying) ≡ p.octets + octets_in flying
octets_in_more p flying = sum_by-cons (λ (q : Passage). q.octets) p flying

-- ---- turns with one more

-- the sender of the last one has its last turn there
pub last_turn_from_own : (last n : ℕ) (begun : List Passage) (p : Passage) → last_turn_from p.sender last n (begun ++ p ∷ []) ≡ n + length begun
last_turn_from_own last n [] p = ap (λ (it : Bool). cond it n last) (same_is p.sender) ∙ omega arith
last_turn_from_own last n (q ∷ begun) p = last_turn_from_own (if q.sender == p.sender then n else last) (n + 1) begun p ∙ omega arith

pub last_turn_from_other : (sender last n : ℕ) (begun : List Passage) (p : Passage) → p.sender ≢ sender → last_turn_from sender last n (begun ++ p ∷ []) ≡ last_turn_from sender last n begun
last_turn_from_other sender last n [] p other = ap (λ (it : Bool). cond it n last) (other_is p.sender sender other)
last_turn_from_other sender last n (q ∷ begun) p other = last_turn_from_other sender (if q.sender == sender then n else last) (n + 1) begun p other

-- ---- what is counted of one sender

-- of its own one that begins
is_own : (p : Passage) (flying begun : List Passage) (old new : OfSender) → IsOf p.sender old flying begun → new.flying ≡ old.flying + 1 → new.octets ≡ old.octets + p.octets → new.turn ≡ min (length begun + 1) LAST_TURN → IsOf p.sender new (p ∷ flying) (begun ++ p ∷ [])
is_own p flying begun old new is sent octets turn = record {
  sent = omega (arith, sent, is.sent, sent_by_own p flying);
  octets = omega (arith, octets, is.octets, octets_by_own p flying);
  turn = turn ∙ ap (λ (n : ℕ). min n LAST_TURN) (sym (last_turn_from_own 0 1 begun p ∙ omega arith));
}

-- of another's
is_other : (sender : ℕ) (p : Passage) (flying begun : List Passage) (of : OfSender) → p.sender ≢ sender → IsOf sender of flying begun → IsOf sender of (p ∷ flying) (begun ++ p ∷ [])
is_other sender p flying begun of other is = record {
  sent = omega (arith, is.sent, sent_by_other sender p flying other);
  octets = omega (arith, is.octets, octets_by_other sender p flying other);
  turn = is.turn ∙ ap (λ (n : ℕ). min n LAST_TURN) (sym (last_turn_from_other sender 0 1 begun p other));
}

-- ---- what stands in a list of which one place was written

pub get_written : {X : Type 0} (xs : List X) (place : ℕ) (y : X) (k : ℕ) (x : X) → slice_get (slice_set xs place y) k ≡ Some x → ((k ≡ place) × (x ≡ y)) ⊎ ((k ≢ place) × (slice_get xs k ≡ Some x))
get_written [] place y k x at = absurd cc
get_written (z ∷ xs) zero y zero x at = inl (refl, cc)
get_written (z ∷ xs) zero y (suc k) x at = inr ((λ e. omega (arith, e)), at)
get_written (z ∷ xs) (suc place) y zero x at = inr ((λ e. omega (arith, e)), at)
get_written (z ∷ xs) (suc place) y (suc k) x at = elim (get_written xs place y k x at) [
  | inl same ↦ inl (ap suc same.0, same.1)
  | inr other ↦ inr ((λ e. other.0 (omega (arith, e))), other.1)
]

-- ---- one more begins

added_sender : (f : Flow) (p : Passage) (flying begun : List Passage) (old new : OfSender) → HasCounts f flying begun → IsOf p.sender old flying begun → new.flying ≡ old.flying + 1 → new.octets ≡ old.octets + p.octets → new.turn ≡ min (length begun + 1) LAST_TURN
    → (k : ℕ) (of : OfSender) → slice_get (slice_set f.senders.items p.sender new) k ≡ Some of → IsOf k of (p ∷ flying) (begun ++ p ∷ [])
added_sender f p flying begun old new counts is sent octets turn k of at = elim (get_written f.senders.items p.sender new k of at) [
  | inl same ↦ subst (λ (j : ℕ). IsOf j of (p ∷ flying) (begun ++ p ∷ [])) (sym same.0) (subst (λ (it : OfSender). IsOf p.sender it (p ∷ flying) (begun ++ p ∷ [])) (sym same.1) (is_own p flying begun old new is sent octets turn))
  | inr other ↦ is_other k p flying begun of (λ e. other.0 (sym e)) (counts.of_senders k of other.1)
]

added_receiver : (f : Flow) (p : Passage) (flying begun : List Passage) (new : ℕ) → HasCounts f flying begun → new ≡ bound_for p.receiver flying + 1
    → (k count : ℕ) → slice_get (slice_set f.receivers.items p.receiver new) k ≡ Some count → count ≡ bound_for k (p ∷ flying)
added_receiver f p flying begun new counts is k count at = elim (get_written f.receivers.items p.receiver new k count at) [
  | inl same ↦ subst (λ (j : ℕ). count ≡ bound_for j (p ∷ flying)) (sym same.0) (omega (arith, same.1, is, bound_for_own p flying))
  | inr other ↦ omega (arith, counts.of_receivers k count other.1, bound_for_other k p flying (λ e. other.0 (sym e)))
]

-- The one flow is the other with the numbers of one more, as far as they can be written.
pub record IsAdded (f g : Flow) (p : Passage) (old new : OfSender) (was count : ℕ) : Type 0 where
  pub most : g.most ≡ f.most
  pub part : g.part ≡ f.part
  pub room : g.room ≡ f.room
  pub flying : g.flying ≡ min (f.flying + 1) (2 ^ 32 - 1)
  pub octets : g.octets ≡ min (f.octets + p.octets) (2 ^ 64 - 1)
  pub turns : g.begun ≡ min (f.begun + 1) (2 ^ 64 - 1)
  pub has_old : slice_get f.senders.items p.sender ≡ Some old
  pub of_sender : new ≡ with_one old p.octets g.begun
  pub senders : g.senders.items ≡ slice_set f.senders.items p.sender new
  pub was_count : slice_get f.receivers.items p.receiver ≡ Some was
  pub of_receiver : count ≡ min (was + 1) (2 ^ 32 - 1)
  pub receivers : g.receivers.items ≡ slice_set f.receivers.items p.receiver count

-- none of them is cut off
whole : (n top : ℕ) → n ≤ top → min n top ≡ n
whole n top within = grind arith

-- the count of turns stays at the last
one_turn_more : (n : ℕ) → min (min n LAST_TURN + 1) LAST_TURN ≡ min (n + 1) LAST_TURN
one_turn_more n = grind arith

part_within : (most : ℕ) → most < 2 ^ 32 → part_of most < 2 ^ 32
part_within most within = grind arith

room_within : (most : ℕ) → most < 2 ^ 32 → room_of most < 2 ^ 46
room_within most within = grind arith

pub begins : (f g : Flow) (p : Passage) (flying begun : List Passage) (old new : OfSender) (was count : ℕ) → HasCounts f flying begun → MayBegin f.most flying p → IsAdded f g p old new was count → HasCounts g (p ∷ flying) (begun ++ p ∷ [])
begins f g p flying begun old new was count counts may added =
    let small = part_within f.most counts.few in
    let fits = room_within f.most counts.few in
    let is : IsOf p.sender old flying begun = counts.of_senders p.sender old added.has_old in
    let to : was ≡ bound_for p.receiver flying = counts.of_receivers p.receiver was added.was_count in
    let turn : g.begun ≡ min (length begun + 1) LAST_TURN = added.turns ∙ (ap (λ (n : ℕ). min (n + 1) LAST_TURN) counts.turns ∙ one_turn_more (length begun)) in
    let sent : new.flying ≡ old.flying + 1 = ap (λ (of : OfSender). of.flying) added.of_sender ∙ whole (old.flying + 1) (2 ^ 32 - 1) (omega (arith, is.sent, may.of_sender, small)) in
    let octets : new.octets ≡ old.octets + p.octets = ap (λ (of : OfSender). of.octets) added.of_sender ∙ whole (old.octets + p.octets) (2 ^ 64 - 1) (omega (arith, is.octets, may.octets_of_sender, fits)) in
    let in_turn : new.turn ≡ min (length begun + 1) LAST_TURN = ap (λ (of : OfSender). of.turn) added.of_sender ∙ turn in
    let one_more : count ≡ bound_for p.receiver flying + 1 = omega (arith, added.of_receiver, to, whole (was + 1) (2 ^ 32 - 1) (omega (arith, to, may.of_receiver, small))) in
    record {
      few = omega (arith, added.most, counts.few);
      part = added.part ∙ (counts.part ∙ ap part_of (sym added.most));
      room = added.room ∙ (counts.room ∙ ap room_of (sym added.most));
      in_all = omega (arith, added.flying, counts.in_all, whole (f.flying + 1) (2 ^ 32 - 1) (omega (arith, counts.in_all, may.in_all, counts.few)));
      octets = omega (arith, added.octets, counts.octets, octets_in_more p flying, whole (f.octets + p.octets) (2 ^ 64 - 1) (omega (arith, counts.octets, may.octets, fits)));
      turns = turn ∙ ap (λ (n : ℕ). min n LAST_TURN) (sym (length_push begun p));
      of_senders = subst (λ (xs : List OfSender). (k : ℕ) (of : OfSender) → slice_get xs k ≡ Some of → IsOf k of (p ∷ flying) (begun ++ p ∷ [])) (sym added.senders) (added_sender f p flying begun old new counts is sent octets in_turn);
      of_receivers = subst (λ (xs : List ℕ). (k c : ℕ) → slice_get xs k ≡ Some c → c ≡ bound_for k (p ∷ flying)) (sym added.receivers) (added_receiver f p flying begun count counts one_more);
    }
