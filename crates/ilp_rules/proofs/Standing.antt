-- What is found in a journal, and what is open in it.
use Rattle.std.proofs.Common.{◌≡◌, ℕ, suc, ◌+◌, Bool, true, false, cond, List, [], ◌∷◌, Some, refl, ◌∙◌, sym, subst, arith}
use Rattle.std.specs.Prelude.{slice_get, IsSome, IsNone, IfSome}
use Rattle.ilp_order.specs.Places.{first_from}
use Rattle.ilp_order.proofs.RefusalLemmas.{chosen, is_none_at, is_some_at, some_same}
use Rattle.ilp_journal.specs.declared.entry.Entry.{Entry}
use Rattle.ilp_journal.specs.declared.entry.Hold.{Hold}
use Rattle.ilp_journal.specs.Journal.{Entries, AnswersOnce, answered, hold_at, answer_of, is_unanswered, open_hold_at}

-- the first place that passes has an element that does
pub first_found : {X : Type 0} (test : ℕ → X → Bool) (k n : ℕ) (xs : List X) → first_from test k xs ≡ Some n → (i : ℕ) × (x : X) × (n ≡ k + i) × (slice_get xs i ≡ Some x) × (test n x ≡ true)
first_found test k n [] e = absurd cc
first_found {X} test k n (y ∷ ys) e = of_test (test k y) refl (λ e. let r = first_found test (k + 1) n ys e in (suc r.0, r.1, r.2 ∙ omega arith, r.3, r.4)) e
  where
    of_test : (b : Bool) → test k y ≡ b → (first_from test (k + 1) ys ≡ Some n → (i : ℕ) × (x : X) × (n ≡ k + i) × (slice_get (y ∷ ys) i ≡ Some x) × (test n x ≡ true))
        → cond b (Some k) (first_from test (k + 1) ys) ≡ Some n → (i : ℕ) × (x : X) × (n ≡ k + i) × (slice_get (y ∷ ys) i ≡ Some x) × (test n x ≡ true)
    of_test true t rest e = let same : k ≡ n = some_same k n e in (0, y, omega arith, refl, subst (λ m. test m y ≡ true) same t)
    of_test false t rest e = rest e

-- what is open stands unanswered
pub open_stands : (j : Entries) (n : ℕ) (h : Hold) → open_hold_at j n ≡ Some h → (is_unanswered j n ≡ true) × (hold_at j n ≡ Some h)
open_stands j n h e = chosen (is_unanswered j n) (hold_at j n) h e

-- an answer of a hold that stands unanswered answers it once
pub answers_open : (j : Entries) (n : ℕ) (h : Hold) (e : Entry) → hold_at j n ≡ Some h → is_unanswered j n ≡ true → answered e.what ≡ Some n → AnswersOnce j e
answers_open j n h e stands unanswered names =
    subst (λ o. IfSome o (λ k. IsSome (hold_at j k) × IsNone (answer_of j k))) (sym names)
    (is_some_at (hold_at j n) h stands, is_none_at (answer_of j n) unanswered)
