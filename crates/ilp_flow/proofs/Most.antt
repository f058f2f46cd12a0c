-- Whose whole requests are most.
use Rattle.std.proofs.Common.{◌≡◌, ℕ, suc, ◌+◌, ◌<◌, ◌≤◌, nat_lt, Bool, true, false, List, [], ◌∷◌, length, Option, Some, None, slice_get, refl, sym, ap, ◌∙◌, arith, ◌⊎◌, inl, inr}
use Rattle.std.specs.Prelude.{◌==◌, option_map, if◌then◌else◌, MatchOption}
use Rattle.std.proofs.lemmas.Bool.Decides.{nat_tests}
use Rattle.std.proofs.lemmas.Option.{slice_get_within}
use Rattle.ilp_flow.specs.declared.waiter.Waiter.{Waiter}
use Rattle.ilp_flow.specs.declared.waiter.Waiter.TheVariants.{Lingers, Partial, Whole}
use Rattle.ilp_flow.specs.declared.closing.Fullest.{Fullest}
use Rattle.ilp_flow.specs.Closing.{whole_of, is_of, IsOfMost}
use Rattle.ilp_flow.specs.Fullest.{HasNoWhole, IsFullest, IsFullestOf, fuller}
use Rattle.ilp_flow.proofs.Turns.{below_or_next}
use Rattle.ilp_flow.proofs.Oldest.{count_of}

sender_is : {a b : ℕ} → ◌≡◌ {A = Option Waiter} (Some (Whole a)) (Some (Whole b)) → a ≡ b
sender_is e = cc

-- ---- one that is no whole request

not_here : (waiters : List Waiter) (n : ℕ) (w : Waiter) → slice_get waiters n ≡ Some w → ((sender : ℕ) → w ≡ Whole sender → ⊥) → (k other : ℕ) → k ≡ n → slice_get waiters k ≡ Some (Whole other) → ⊥
not_here waiters n w at differs k other same stands = differs other (let both : ◌≡◌ {A = Option Waiter} (Some w) (Some (Whole other)) = sym at ∙ (ap (slice_get waiters) (sym same) ∙ stands) in cc)

-- it changes nothing
pub passed_over : (waiters : List Waiter) (n : ℕ) (w : Waiter) (fullest : Option Fullest) → slice_get waiters n ≡ Some w → ((sender : ℕ) → w ≡ Whole sender → ⊥) → IsFullestOf waiters n fullest → IsFullestOf waiters (n + 1) fullest
passed_over waiters n w None at differs none = λ k other below stands. elim (below_or_next k n below) [
  | inl before ↦ none k other before stands
  | inr next ↦ not_here waiters n w at differs k other next stands
]
passed_over waiters n w (Some f) at differs is = record {
  sender = is.sender;
  within = omega (arith, is.within);
  stands = is.stands;
  counted = is.counted;
  most = λ k other below stands. elim (below_or_next k n below) [
    | inl before ↦ is.most k other before stands
    | inr next ↦ absurd (not_here waiters n w at differs k other next stands)
  ];
  newest = λ k other above below stands. elim (below_or_next k n below) [
    | inl before ↦ is.newest k other above before stands
    | inr next ↦ absurd (not_here waiters n w at differs k other next stands)
  ];
}

-- ---- one that is

-- what stands at n is this one's sender's
its_sender : (waiters : List Waiter) (n sender : ℕ) → slice_get waiters n ≡ Some (Whole sender) → (k other : ℕ) → k ≡ n → slice_get waiters k ≡ Some (Whole other) → whole_of other waiters ≡ whole_of sender waiters
its_sender waiters n sender at k other same stands = ap (λ (s : ℕ). whole_of s waiters) (sender_is (sym stands ∙ (ap (slice_get waiters) same ∙ at)))

-- its sender has as many as any before
becomes_fullest : (waiters : List Waiter) (n sender count : ℕ) → slice_get waiters n ≡ Some (Whole sender) → count ≡ whole_of sender waiters
    → ((k other : ℕ) → k < n → slice_get waiters k ≡ Some (Whole other) → whole_of other waiters ≤ count) → IsFullest waiters (n + 1) n count
becomes_fullest waiters n sender count at counted most = record {
  sender = sender;
  within = omega arith;
  stands = at;
  counted = counted;
  most = λ k other below stands. elim (below_or_next k n below) [
    | inl before ↦ most k other before stands
    | inr next ↦ let same = its_sender waiters n sender at k other next stands in omega (arith, same, counted)
  ];
  newest = λ k other above below stands. absurd (omega (arith, above, below));
}

-- its sender has fewer
stays_fullest : (waiters : List Waiter) (n sender count place most : ℕ) → slice_get waiters n ≡ Some (Whole sender) → count ≡ whole_of sender waiters → count < most → IsFullest waiters n place most → IsFullest waiters (n + 1) place most
stays_fullest waiters n sender count place most at counted fewer is = record {
  sender = is.sender;
  within = omega (arith, is.within);
  stands = is.stands;
  counted = is.counted;
  most = λ k other below stands. elim (below_or_next k n below) [
    | inl before ↦ is.most k other before stands
    | inr next ↦ let same = its_sender waiters n sender at k other next stands in omega (arith, same, counted, fewer)
  ];
  newest = λ k other above below stands. elim (below_or_next k n below) [
    | inl before ↦ is.newest k other above before stands
    | inr next ↦ let same = its_sender waiters n sender at k other next stands in omega (arith, same, counted, fewer)
  ];
}

pub taken_up : (waiters : List Waiter) (n sender count : ℕ) (fullest : Option Fullest) → slice_get waiters n ≡ Some (Whole sender) → count ≡ whole_of sender waiters → IsFullestOf waiters n fullest → IsFullestOf waiters (n + 1) (fuller fullest n count)
taken_up waiters n sender count None at counted none = becomes_fullest waiters n sender count at counted (λ k other below stands. absurd (none k other below stands))
taken_up waiters n sender count (Some f) at counted is = by (nat_lt count f.count) refl
  where
    by : (b : Bool) → nat_lt count f.count ≡ b → IsFullestOf waiters (n + 1) (if b then Some f else Some (record { place = n; count = count }))
    by true e = stays_fullest waiters n sender count f.place f.count at counted (grind (arith, nat_tests)) is
    by false e = becomes_fullest waiters n sender count at counted (λ k other below stands. let least = is.most k other below stands in grind (arith, nat_tests))

-- ---- all that wait

-- what is known behind one that isn't the sender's
one_later : (sender : ℕ) (w : Waiter) (waiters : List Waiter) → is_of sender w ≡ false → (whole_of sender waiters ≡ 0) ⊎ ((k : ℕ) × (slice_get waiters k ≡ Some (Whole sender)))
    → (whole_of sender (w ∷ waiters) ≡ 0) ⊎ ((k : ℕ) × (slice_get (w ∷ waiters) k ≡ Some (Whole sender)))
one_later sender w waiters other (inl none) = inl (let same = count_of (is_of sender) w waiters false other in omega (arith, same, none))
one_later sender w waiters other (inr some) = inr (suc some.0, some.1)

-- A sender has no whole request, or one stands somewhere.
stands_somewhere : (sender : ℕ) (waiters : List Waiter) → (whole_of sender waiters ≡ 0) ⊎ ((k : ℕ) × (slice_get waiters k ≡ Some (Whole sender)))
stands_somewhere sender [] = inl refl
stands_somewhere sender (Lingers ∷ waiters) = one_later sender Lingers waiters refl (stands_somewhere sender waiters)
stands_somewhere sender (Partial ∷ waiters) = one_later sender Partial waiters refl (stands_somewhere sender waiters)
stands_somewhere sender (Whole of ∷ waiters) = by (stands_somewhere sender waiters) (of == sender) refl
  where
    by : (whole_of sender waiters ≡ 0) ⊎ ((k : ℕ) × (slice_get waiters k ≡ Some (Whole sender))) → (b : Bool) → (of == sender) ≡ b → (whole_of sender (Whole of ∷ waiters) ≡ 0) ⊎ ((k : ℕ) × (slice_get (Whole of ∷ waiters) k ≡ Some (Whole sender)))
    by later true e = let same : of ≡ sender = grind (arith, nat_tests) in inr (0, ap (λ (s : ℕ). Some (Whole s)) same)
    by later false e = one_later sender (Whole of) waiters e later

at_most : (waiters : List Waiter) (place count other : ℕ) → IsFullest waiters (length waiters) place count → whole_of other waiters ≤ count
at_most waiters place count other is = elim (stands_somewhere other waiters) [
  | inl none ↦ omega (arith, none)
  | inr some ↦ is.most some.0 other (slice_get_within waiters some.0 (Whole other) some.1) some.1
]

pub over : (waiters : List Waiter) (fullest : Option Fullest) → IsFullestOf waiters (length waiters) fullest → MatchOption (option_map (λ (f : Fullest). f.place) fullest) (HasNoWhole waiters) (IsOfMost waiters)
over waiters None none = λ k sender stands. none k sender (slice_get_within waiters k (Whole sender) stands) stands
over waiters (Some f) is = record {
  sender = is.sender;
  stands = is.stands;
  most = λ other. let least = at_most waiters f.place f.count other is in omega (arith, least, is.counted);
  newest = λ k other above stands. let less = is.newest k other above (slice_get_within waiters k (Whole other) stands) stands in omega (arith, less, is.counted);
}
