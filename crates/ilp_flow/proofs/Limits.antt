-- The limits are kept as one begins and as one ends.
use Rattle.std.proofs.Common.{◌≡◌, ◌≢◌, ℕ, ◌/◌, ◌≤◌, List, [], ◌∷◌, ◌++◌, subst, arith, ◌⊎◌, inl, inr}
use Rattle.std.specs.Prelude.{◌==◌, if◌then◌else◌, sum_by}
use Rattle.std.proofs.lemmas.List.Sums.{sum_by-cons}
use Rattle.ilp_flow.specs.declared.passage.Passage.{Passage}
use Rattle.ilp_flow.specs.Flow.{part_of, room_of, sent_by, bound_for, octets_by, MayBegin, AreWithin}
use Rattle.ilp_flow.proofs.Counting.{sum_in_front, sent_by_own, sent_by_other, bound_for_own, bound_for_other, octets_by_own, octets_by_other, octets_in_more}
use Rattle.ilp_flow.proofs.Ending.{length_in_front}

same_or_other : (m n : ℕ) → (m ≡ n) ⊎ (m ≢ n)
same_or_other m n = grind arith

-- where none is in flight any one may begin that is no greater than a packet may be
pub one_may_begin : (most : ℕ) (p : Passage) → 1 ≤ most → p.octets ≤ 65536 → MayBegin most [] p
one_may_begin most p some small = record {
  in_all = omega (arith, some);
  of_sender = grind arith;
  of_receiver = grind arith;
  octets = grind arith;
  octets_of_sender = grind arith;
}

pub none_is_within : (most : ℕ) → AreWithin most []
none_is_within most = record {
  in_all = omega arith;
  of_senders = λ sender. omega arith;
  of_receivers = λ receiver. omega arith;
  octets = omega arith;
  octets_of_senders = λ sender. omega arith;
}

sent_within : (most : ℕ) (flying : List Passage) (p : Passage) → AreWithin most flying → MayBegin most flying p → (sender : ℕ) → sent_by sender (p ∷ flying) ≤ part_of most
sent_within most flying p within may sender = elim (same_or_other p.sender sender) [
  | inl same ↦ subst (λ (s : ℕ). sent_by s (p ∷ flying) ≤ part_of most) same (omega (arith, sent_by_own p flying, may.of_sender))
  | inr other ↦ omega (arith, sent_by_other sender p flying other, within.of_senders sender)
]

bound_within : (most : ℕ) (flying : List Passage) (p : Passage) → AreWithin most flying → MayBegin most flying p → (receiver : ℕ) → bound_for receiver (p ∷ flying) ≤ part_of most
bound_within most flying p within may receiver = elim (same_or_other p.receiver receiver) [
  | inl same ↦ subst (λ (r : ℕ). bound_for r (p ∷ flying) ≤ part_of most) same (omega (arith, bound_for_own p flying, may.of_receiver))
  | inr other ↦ omega (arith, bound_for_other receiver p flying other, within.of_receivers receiver)
]

octets_within : (most : ℕ) (flying : List Passage) (p : Passage) → AreWithin most flying → MayBegin most flying p → (sender : ℕ) → octets_by sender (p ∷ flying) ≤ room_of most / 2
octets_within most flying p within may sender = elim (same_or_other p.sender sender) [
  | inl same ↦ subst (λ (s : ℕ). octets_by s (p ∷ flying) ≤ room_of most / 2) same (omega (arith, octets_by_own p flying, may.octets_of_sender))
  | inr other ↦ omega (arith, octets_by_other sender p flying other, within.octets_of_senders sender)
]

pub kept_at_begin : (most : ℕ) (flying : List Passage) (p : Passage) → AreWithin most flying → MayBegin most flying p → AreWithin most (p ∷ flying)
kept_at_begin most flying p within may = record {
  in_all = omega (arith, may.in_all);
  of_senders = sent_within most flying p within may;
  of_receivers = bound_within most flying p within may;
  octets = omega (arith, may.octets, octets_in_more p flying);
  octets_of_senders = octets_within most flying p within may;
}

-- without one of them the sum is no greater
sum_less : (f : Passage → ℕ) (before after : List Passage) (p : Passage) → sum_by f (before ++ after) ≤ sum_by f (before ++ p ∷ after)
sum_less f before after p = omega (arith, sum_in_front f before after p, sum_by-cons f p (before ++ after))

pub kept_at_end : (most : ℕ) (before after : List Passage) (p : Passage) → AreWithin most (before ++ p ∷ after) → AreWithin most (before ++ after)
kept_at_end most before after p within = record {
  in_all = omega (arith, within.in_all, length_in_front before after p);
  of_senders = λ sender. omega (arith, within.of_senders sender, sum_less (λ (q : Passage). if q.sender == sender then 1 else 0) before after p);
  of_receivers = λ receiver. omega (arith, within.of_receivers receiver, sum_less (λ (q : Passage). if q.receiver == receiver then 1 else 0) before after p);
  octets = omega (arith, within.octets, sum_less (λ (q : Passage). q.octets) before after p);
  octets_of_senders = λ sender. omega (arith, within.octets_of_senders sender, sum_less (λ (q : Passage). if q.sender == sender then q.octets else 0) before after p);
}
