-- The worked rows hold.
use Rattle.std.proofs.Common.{◌≡◌, ℕ, zero, suc, ◌<◌, ◌≤◌, List, [], ◌∷◌, Option, Some, slice_get, false, inl, inr, refl, sym, ap, subst, arith, lit<}
use Rattle.std.proofs.lemmas.Bool.Decides.{nat_tests}
use Rattle.ilp_flow.specs.declared.passage.Passage.{Passage}
use Rattle.ilp_flow.specs.declared.waiter.Waiter.{Waiter}
use Rattle.ilp_flow.specs.declared.waiter.Waiter.TheVariants.{Lingers, Partial, Whole}
use Rattle.ilp_flow.specs.Flow.{MayBegin, last_turn, MayNoneBegin}
use Rattle.ilp_flow.specs.Closing.{lingers, is_partial, whole_of}
use Rattle.ilp_flow.specs.Rows.{from_to, two_flying, three_begun, four_waiting, FlowRows, ClosingRows}

passage_is : {p q : Passage} → ◌≡◌ {A = Option Passage} (Some p) (Some q) → p ≡ q
passage_is e = cc

-- the sender 0 has as many as it may
of_sender_0 : (receiver : ℕ) → ¬ MayBegin 4 two_flying (from_to 0 receiver)
of_sender_0 receiver may = let below : 2 < 2 = may.of_sender in omega (arith, below)

first : (k : ℕ) (other : Passage) → k < 2 → slice_get four_waiting k ≡ Some other → MayBegin 4 two_flying other → last_turn 2 three_begun < last_turn other.sender three_begun
first zero other below at may = absurd (of_sender_0 7 (subst (λ (p : Passage). MayBegin 4 two_flying p) (sym (passage_is at)) may))
first (suc zero) other below at may = subst (λ (p : Passage). last_turn 2 three_begun < last_turn p.sender three_begun) (passage_is at) (lit< tt)
first (suc (suc k)) other below at may = absurd (omega (arith, below))

none_may : MayNoneBegin 4 two_flying (from_to 0 7 ∷ from_to 0 8 ∷ [])
none_may zero other at may = of_sender_0 7 (subst (λ (p : Passage). MayBegin 4 two_flying p) (sym (passage_is at)) may)
none_may (suc zero) other at may = of_sender_0 8 (subst (λ (p : Passage). MayBegin 4 two_flying p) (sym (passage_is at)) may)
none_may (suc (suc k)) other at may = absurd cc

pub flow_rows : FlowRows
flow_rows = record {
  part_of_one = refl;
  part_of_five = refl;
  room_of_one = refl;
  room_of_twenty = refl;
  another_sender = record { in_all = lit< tt; of_sender = lit< tt; of_receiver = lit< tt; octets = omega arith; octets_of_sender = omega arith };
  same_sender = of_sender_0 7;
  same_receiver = λ may. let below : 2 < 2 = may.of_receiver in omega (arith, below);
  none_in_all = λ may. let below : 2 < 2 = may.in_all in omega (arith, below);
  octets_fit = record { in_all = lit< tt; of_sender = lit< tt; of_receiver = lit< tt; octets = omega arith; octets_of_sender = omega arith };
  octets_of_sender = λ may. let below : 65537 ≤ 65536 = may.octets_of_sender in omega (arith, below);
  octets_of_another = record { in_all = lit< tt; of_sender = lit< tt; of_receiver = lit< tt; octets = omega arith; octets_of_sender = omega arith };
  octets_in_all = λ may. let below : 131073 ≤ 131072 = may.octets in omega (arith, below);
  never_began = refl;
  began_last = refl;
  next = record {
    passage = from_to 2 5;
    stands = refl;
    may = record { in_all = lit< tt; of_sender = lit< tt; of_receiver = lit< tt; octets = omega arith; octets_of_sender = omega arith };
    longest = λ k other at may. let none : last_turn 2 three_begun ≡ 0 = refl in omega (arith, none);
    first = first;
  };
  none_next = none_may;
}

-- ---- who is closed

waiter_is : {a b : Waiter} → ◌≡◌ {A = Option Waiter} (Some a) (Some b) → a ≡ b
waiter_is e = cc

abbrev with_two_lingering : List Waiter
with_two_lingering = Partial ∷ Whole 1 ∷ Lingers ∷ Lingers ∷ []

none_lingers_before : (k : ℕ) (other : Waiter) → k < 2 → slice_get with_two_lingering k ≡ Some other → lingers other ≡ false
none_lingers_before zero other below at = ap lingers (sym (waiter_is at))
none_lingers_before (suc zero) other below at = ap lingers (sym (waiter_is at))
none_lingers_before (suc (suc k)) other below at = absurd (omega (arith, below))

abbrev with_two_partial : List Waiter
with_two_partial = Whole 1 ∷ Partial ∷ Whole 2 ∷ Partial ∷ []

none_partial_before : (k : ℕ) (other : Waiter) → k < 1 → slice_get with_two_partial k ≡ Some other → is_partial other ≡ false
none_partial_before zero other below at = ap is_partial (sym (waiter_is at))
none_partial_before (suc k) other below at = absurd (omega (arith, below))

abbrev six_whole : List Waiter
six_whole = Whole 1 ∷ Whole 2 ∷ Whole 1 ∷ Whole 2 ∷ Whole 2 ∷ Whole 3 ∷ []

most_of_six : (other : ℕ) → whole_of other six_whole ≤ whole_of 2 six_whole
most_of_six other = grind (arith, nat_tests)

sender_is : {a b : ℕ} → ◌≡◌ {A = Option Waiter} (Some (Whole a)) (Some (Whole b)) → a ≡ b
sender_is e = cc

newest_of_six : (k other : ℕ) → 4 < k → slice_get six_whole k ≡ Some (Whole other) → whole_of other six_whole < whole_of 2 six_whole
newest_of_six zero other above at = absurd (omega (arith, above))
newest_of_six (suc zero) other above at = absurd (omega (arith, above))
newest_of_six (suc (suc zero)) other above at = absurd (omega (arith, above))
newest_of_six (suc (suc (suc zero))) other above at = absurd (omega (arith, above))
newest_of_six (suc (suc (suc (suc zero)))) other above at = absurd (omega (arith, above))
newest_of_six (suc (suc (suc (suc (suc zero))))) other above at = subst (λ s. whole_of s six_whole < whole_of 2 six_whole) (sender_is at) (lit< tt)
newest_of_six (suc (suc (suc (suc (suc (suc k)))))) other above at = absurd cc

abbrev two_whole : List Waiter
two_whole = Whole 1 ∷ Whole 2 ∷ []

most_of_two : (other : ℕ) → whole_of other two_whole ≤ whole_of 2 two_whole
most_of_two other = grind (arith, nat_tests)

none_newer : (k other : ℕ) → 1 < k → slice_get two_whole k ≡ Some (Whole other) → whole_of other two_whole < whole_of 2 two_whole
none_newer zero other above at = absurd (omega (arith, above))
none_newer (suc zero) other above at = absurd (omega (arith, above))
none_newer (suc (suc k)) other above at = absurd cc

pub closing_rows : ClosingRows
closing_rows = record {
  lingering = inl (record { waiter = Lingers; stands = refl; is = refl; none_older = none_lingers_before });
  partial = inr (refl, inl (record { waiter = Partial; stands = refl; is = refl; none_older = none_partial_before }));
  of_most = inr (refl, inr (refl, record { sender = 2; stands = refl; most = most_of_six; newest = newest_of_six }));
  newest_of_all = inr (refl, inr (refl, record { sender = 2; stands = refl; most = most_of_two; newest = none_newer }));
}
