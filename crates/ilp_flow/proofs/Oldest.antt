-- The oldest for which a test is true, and that there is none.
use Rattle.std.proofs.Common.{◌≡◌, ℕ, suc, ◌+◌, ◌≤◌, Bool, true, false, cond, not, List, [], ◌∷◌, length, Some, None, get_or, refl, subst, arith}
use Rattle.std.specs.Prelude.{count_by, position}
use Rattle.std.specs.List.{position_or_len}
use Rattle.std.proofs.lemmas.Bool.Decides.{nat_tests}
use Rattle.std.proofs.lemmas.List.Quantifiers.{position-Some}
use Rattle.std.proofs.lemmas.List.Sums.{sum_by-cons}
use Rattle.std.proofs.lemmas.Option.{slice_get-get_or, get_or_from_slice_get}
use Rattle.ilp_flow.specs.declared.waiter.Waiter.{Waiter}
use Rattle.ilp_flow.specs.declared.waiter.Waiter.TheVariants.{Lingers, Partial, Whole}
use Rattle.ilp_flow.specs.Closing.{IsOldest, HasNone, lingers, is_partial}
use Rattle.ilp_flow.specs.Fullest.{HasNoWhole}

pub oldest_is : (test : Waiter → Bool) (waiters : List Waiter) (place : ℕ) → position test waiters ≡ Some place → IsOldest test waiters place
oldest_is test waiters place found =
    let at = position-Some test waiters place Lingers found in
    record {
      waiter = get_or waiters place Lingers;
      stands = slice_get-get_or waiters place Lingers at.0;
      is = at.1;
      none_older = λ k other below stands. subst (λ (w : Waiter). test w ≡ false) (get_or_from_slice_get waiters k other Lingers stands) (at.2 k below);
    }

pub count_of : (test : Waiter → Bool) (w : Waiter) (waiters : List Waiter) (b : Bool) → test w ≡ b → count_by test (w ∷ waiters) ≡ cond b 1 0 + count_by test waiters
count_of test w waiters b is = subst (λ (it : Bool). count_by test (w ∷ waiters) ≡ cond it 1 0 + count_by test waiters) is (sum_by-cons (λ (q : Waiter). cond (test q) 1 0) w waiters)

none_passes : (test : Waiter → Bool) (waiters : List Waiter) → length waiters ≤ position_or_len test waiters → count_by test waiters ≡ 0
none_passes test [] all = refl
none_passes test (w ∷ waiters) all = by (none_passes test waiters) (test w) refl
  where
    by : (length waiters ≤ position_or_len test waiters → count_by test waiters ≡ 0) → (b : Bool) → test w ≡ b → count_by test (w ∷ waiters) ≡ 0
    by rest true e = absurd (let none : suc (length waiters) ≤ 0 = subst (λ (it : Bool). suc (length waiters) ≤ cond (not it) (1 + position_or_len test waiters) 0) e all in omega (arith, none))
    by rest false e =
        let more : suc (length waiters) ≤ 1 + position_or_len test waiters = subst (λ (it : Bool). suc (length waiters) ≤ cond (not it) (1 + position_or_len test waiters) 0) e all in
        let counted = count_of test w waiters false e in
        omega (arith, counted, rest (omega (arith, more)))

pub none_is : (test : Waiter → Bool) (waiters : List Waiter) → position test waiters ≡ None → HasNone test waiters
none_is test waiters none = none_passes test waiters (grind (arith, nat_tests))

-- ---- each waiter is of some kind

first_counts : (test : Waiter → Bool) (w : Waiter) (waiters : List Waiter) → test w ≡ true → HasNone test (w ∷ waiters) → ⊥
first_counts test w waiters is none = let one = count_of test w waiters true is in omega (arith, one, none)

pub none_waits : (waiters : List Waiter) → HasNone lingers waiters → HasNone is_partial waiters → HasNoWhole waiters → waiters ≡ []
none_waits [] lingering partial whole = refl
none_waits (Lingers ∷ waiters) lingering partial whole = absurd (first_counts lingers Lingers waiters refl lingering)
none_waits (Partial ∷ waiters) lingering partial whole = absurd (first_counts is_partial Partial waiters refl partial)
none_waits (Whole sender ∷ waiters) lingering partial whole = absurd (whole 0 sender refl)
