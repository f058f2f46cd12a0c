-- Who begins next, one after another of those that wait.
use Rattle.std.proofs.Common.{◌≡◌, ℕ, ◌+◌, ◌<◌, ◌≤◌, nat_le, Bool, true, false, List, length, Option, Some, None, slice_get, refl, sym, ap, ◌∙◌, subst, arith, ◌⊎◌, inl, inr}
use Rattle.std.specs.Prelude.{option_map, if◌then◌else◌}
use Rattle.std.proofs.lemmas.Bool.Decides.{nat_tests}
use Rattle.std.proofs.lemmas.Option.{slice_get_within}
use Rattle.ilp_flow.specs.declared.passage.Passage.{Passage}
use Rattle.ilp_flow.specs.declared.flow.Turn.{Turn}
use Rattle.ilp_flow.specs.Flow.{MayBegin, last_turn, BeginsNext}
use Rattle.ilp_flow.specs.Counts.{IsSoonest, IsBest, sooner}

passage_is : {p q : Passage} → ◌≡◌ {A = Option Passage} (Some p) (Some q) → p ≡ q
passage_is e = cc

-- one of the first n + 1 is one of the first n, or the next
pub below_or_next : (k n : ℕ) → k < n + 1 → (k < n) ⊎ (k ≡ n)
below_or_next k n below = grind arith

-- the one that may not begin isn't the one that stands at n
pub record IsPassed (most : ℕ) (flying waiting : List Passage) (n : ℕ) (p : Passage) : Type 0 where
  pub at : slice_get waiting n ≡ Some p
  pub may_not : ¬ MayBegin most flying p

not_here : (most : ℕ) (flying waiting : List Passage) (n : ℕ) (p : Passage) → IsPassed most flying waiting n p → (k : ℕ) (other : Passage) → k ≡ n → slice_get waiting k ≡ Some other → ¬ MayBegin most flying other
not_here most flying waiting n p passed k other next stands may =
    passed.may_not (subst (λ (q : Passage). MayBegin most flying q) (passage_is (sym stands ∙ (ap (slice_get waiting) next ∙ passed.at))) may)

longest_still : (most : ℕ) (flying begun waiting : List Passage) (n place turn : ℕ) (p : Passage) → IsPassed most flying waiting n p → IsSoonest most flying begun waiting n place turn
    → (k : ℕ) (other : Passage) → k < n + 1 → slice_get waiting k ≡ Some other → MayBegin most flying other → turn ≤ last_turn other.sender begun
longest_still most flying begun waiting n place turn p passed is k other below stands may =
    elim (below_or_next k n below) [
      | inl before ↦ is.longest k other before stands may
      | inr next ↦ absurd (not_here most flying waiting n p passed k other next stands may)
    ]

none_still : (most : ℕ) (flying waiting : List Passage) (n : ℕ) (p : Passage) → IsPassed most flying waiting n p
    → ((k : ℕ) (other : Passage) → k < n → slice_get waiting k ≡ Some other → ¬ MayBegin most flying other)
    → (k : ℕ) (other : Passage) → k < n + 1 → slice_get waiting k ≡ Some other → ¬ MayBegin most flying other
none_still most flying waiting n p passed none k other below stands may =
    elim (below_or_next k n below) [
      | inl before ↦ none k other before stands may
      | inr next ↦ not_here most flying waiting n p passed k other next stands may
    ]

-- the one that may not begin changes nothing
pub passed_over : (most : ℕ) (flying begun waiting : List Passage) (n : ℕ) (p : Passage) (best : Option Turn) → IsPassed most flying waiting n p → IsBest most flying begun waiting n best → IsBest most flying begun waiting (n + 1) best
passed_over most flying begun waiting n p None passed is = none_still most flying waiting n p passed is
passed_over most flying begun waiting n p (Some t) passed is = record {
  passage = is.passage;
  within = omega (arith, is.within);
  stands = is.stands;
  may = is.may;
  turn_is = is.turn_is;
  longest = longest_still most flying begun waiting n t.place t.turn p passed is;
  first = is.first;
}

-- ---- one that may begin

pub record IsWilling (most : ℕ) (flying begun waiting : List Passage) (n turn : ℕ) (p : Passage) : Type 0 where
  pub at : slice_get waiting n ≡ Some p
  pub may : MayBegin most flying p
  pub turn_is : turn ≡ last_turn p.sender begun

-- what stands at n is this one, with its sender's turn
its_turn : (most : ℕ) (flying begun waiting : List Passage) (n turn : ℕ) (p : Passage) → IsWilling most flying begun waiting n turn p → (k : ℕ) (other : Passage) → k ≡ n → slice_get waiting k ≡ Some other → turn ≡ last_turn other.sender begun
its_turn most flying begun waiting n turn p willing k other next stands =
    subst (λ (q : Passage). turn ≡ last_turn q.sender begun) (sym (passage_is (sym stands ∙ (ap (slice_get waiting) next ∙ willing.at)))) willing.turn_is

-- it is the first that may
first_of_all : (most : ℕ) (flying begun waiting : List Passage) (n turn : ℕ) (p : Passage) → IsWilling most flying begun waiting n turn p
    → ((k : ℕ) (other : Passage) → k < n → slice_get waiting k ≡ Some other → ¬ MayBegin most flying other) → IsSoonest most flying begun waiting (n + 1) n turn
first_of_all most flying begun waiting n turn p willing none = record {
  passage = p;
  within = omega arith;
  stands = willing.at;
  may = willing.may;
  turn_is = willing.turn_is;
  longest = λ k other below stands may. elim (below_or_next k n below) [
    | inl before ↦ absurd (none k other before stands may)
    | inr next ↦ let is = its_turn most flying begun waiting n turn p willing k other next stands in omega (arith, is)
  ];
  first = λ k other below stands may. absurd (none k other below stands may);
}

-- its sender's turn was later, so the one before stays
stays_soonest : (most : ℕ) (flying begun waiting : List Passage) (n place before turn : ℕ) (p : Passage) → IsWilling most flying begun waiting n turn p → before ≤ turn
    → IsSoonest most flying begun waiting n place before → IsSoonest most flying begun waiting (n + 1) place before
stays_soonest most flying begun waiting n place before turn p willing later is = record {
  passage = is.passage;
  within = omega (arith, is.within);
  stands = is.stands;
  may = is.may;
  turn_is = is.turn_is;
  longest = λ k other below stands may. elim (below_or_next k n below) [
    | inl earlier ↦ is.longest k other earlier stands may
    | inr next ↦ let same = its_turn most flying begun waiting n turn p willing k other next stands in omega (arith, same, later)
  ];
  first = is.first;
}

-- its sender's turn was longer ago than that of all before
sooner_than_all : (most : ℕ) (flying begun waiting : List Passage) (n place before turn : ℕ) (p : Passage) → IsWilling most flying begun waiting n turn p → turn < before
    → IsSoonest most flying begun waiting n place before → IsSoonest most flying begun waiting (n + 1) n turn
sooner_than_all most flying begun waiting n place before turn p willing longer is = record {
  passage = p;
  within = omega arith;
  stands = willing.at;
  may = willing.may;
  turn_is = willing.turn_is;
  longest = λ k other below stands may. elim (below_or_next k n below) [
    | inl earlier ↦ let least = is.longest k other earlier stands may in omega (arith, least, longer)
    | inr next ↦ let same = its_turn most flying begun waiting n turn p willing k other next stands in omega (arith, same)
  ];
  first = λ k other below stands may. let least = is.longest k other below stands may in omega (arith, least, longer);
}

-- the sooner one of both
pub taken_up : (most : ℕ) (flying begun waiting : List Passage) (n turn : ℕ) (p : Passage) (best : Option Turn) → IsWilling most flying begun waiting n turn p → IsBest most flying begun waiting n best → IsBest most flying begun waiting (n + 1) (sooner best n turn)
taken_up most flying begun waiting n turn p None willing is = first_of_all most flying begun waiting n turn p willing is
taken_up most flying begun waiting n turn p (Some t) willing is = by (nat_le t.turn turn) refl
  where
    by : (b : Bool) → nat_le t.turn turn ≡ b → IsBest most flying begun waiting (n + 1) (if b then Some t else Some (record { place = n; turn = turn }))
    by true e = stays_soonest most flying begun waiting n t.place t.turn turn p willing (grind (arith, nat_tests)) is
    by false e = sooner_than_all most flying begun waiting n t.place t.turn turn p willing (grind (arith, nat_tests)) is

-- ---- all that wait

pub over : (most : ℕ) (flying begun waiting : List Passage) (best : Option Turn) → IsBest most flying begun waiting (length waiting) best → BeginsNext most flying begun waiting (option_map (λ (t : Turn). t.place) best)
over most flying begun waiting None is = λ k other stands. is k other (slice_get_within waiting k other stands) stands
over most flying begun waiting (Some t) is = record {
  passage = is.passage;
  stands = is.stands;
  may = is.may;
  longest = λ k other stands may. let least = is.longest k other (slice_get_within waiting k other stands) stands may in omega (arith, least, is.turn_is);
  first = λ k other below stands may. let least = is.first k other below stands may in omega (arith, least, is.turn_is);
}
