-- The earliest of the open holds is the one that comes first.
use Rattle.std.proofs.Common.{◌≡◌, ℕ, zero, suc, ◌+◌, ◌≤◌, ◌⊎◌, inl, inr, ℤ, Bool, true, false, cond, [], ◌∷◌, Option, Some, None, refl, sym, ap, ◌∙◌, subst, arith, add-zero, zero-add}
use Rattle.std.specs.Prelude.{int_lt, int_le, option_map, option_and_then, ◌≤ℤ◌, ◌<ℤ◌}
use Rattle.std.proofs.lemmas.Int.{ints}
use Rattle.std.specs.Ordering.{nat_cmp}
use Rattle.std.specs.FinMap as fin_map
use Rattle.std.specs.FinMap.{FinMap, get-empty}
use Rattle.ilp_holds.specs.Due.{IsNoLater}
use Rattle.ilp_journal.specs.declared.entry.Hold.{Hold}
use Rattle.ilp_journal.specs.Journal.{Entries, hold_at, as_hold, is_unanswered, open_hold_at}
use Rattle.ilp_rules.specs.Book.{PlainBook, By, moment_at}
use Rattle.ilp_rules.specs.Open.{earlier, earliest, earliest_from, IsEarliest}
use Rattle.ilp_book.specs.AnswerStep.{due, expire_booked, expire_step}
use Rattle.ilp_order.proofs.RefusalLemmas.{chosen, some_same}
use Rattle.ilp_rules.specs.Tables.{deadline_of, AreOpen}
use Rattle.ilp_rules.proofs.Standing.{open_stands}
use Rattle.ilp_book.proofs.AnswerSteps.{earliest_stands}

-- a hold with its number
abbrev with_number : ℕ → Option Hold → Option (ℕ × Hold)
with_number n o = option_map (λ (h : Hold). (n, h)) o

-- the earliest hold is due from its deadline on
pub due_at : (j : Entries) (m : ℤ) (n : ℕ) (h : Hold) → earliest j ≡ Some (n, h) → h.deadline ≤ℤ m → due j m ≡ Some n
due_at j m n h is late =
    subst (λ o. option_and_then (λ (first : ℕ × Hold). cond (int_le first.1.deadline m) (Some first.0) None) o ≡ Some n) (sym is) (of_test (int_le h.deadline m) refl)
  where
    never : (a b : ℤ) → int_le a b ≡ false → a ≤ℤ b → ⊥
    never a b e l = omega (arith, ints)

    of_test : (b : Bool) → int_le h.deadline m ≡ b → cond b (Some n) None ≡ Some n
    of_test true e = refl
    of_test false e = absurd (never h.deadline m e late)

-- ---- the earliest is the first of all

-- x is the hold g of the number n, or comes before it
abbrev Before : ℕ × Hold → ℕ → Hold → Type 0
Before x n g = (x.1.deadline <ℤ g.deadline) ⊎ ((x.1.deadline ≡ g.deadline) × (x.0 ≤ n))

before-before : (x y : ℕ × Hold) (n : ℕ) (g : Hold) → Before x y.0 y.1 → Before y n g → Before x n g
before-before x y n g (inl a) (inl b) = inl (omega (arith, ints))
before-before x y n g (inl a) (inr b) = inl (rw (sym b.0) a)
before-before x y n g (inr a) (inl b) = inl (rw a.0 b)
before-before x y n g (inr a) (inr b) = inr (a.0 ∙ b.0, omega (arith, a.1, b.1))

-- where none passes the test there is no earliest
none_earliest : (test : ℕ → Bool) (k : ℕ) (es : Entries) → earliest_from test k es ≡ None → (i : ℕ) (g : Hold) → test (k + i) ≡ true → hold_at es i ≡ Some g → ⊥
none_earliest test k [] e i g passes stands = cc
none_earliest test k (d ∷ es) e zero g passes stands = here (test k) (subst (λ n. test n ≡ true) (add-zero k) passes) (as_hold d.what) stands (earliest_from test (k + 1) es) e
  where
    here : (b : Bool) → b ≡ true → (o : Option Hold) → o ≡ Some g → (rest : Option (ℕ × Hold)) → earlier (cond b (with_number k o) None) rest ≡ None → ⊥
    here false t o is rest e = cc
    here true t None is rest e = cc
    here true t (Some h) is None e = cc
    here true t (Some h) is (Some y) e = either (int_lt y.1.deadline h.deadline) e
      where
        either : (b : Bool) → ◌≡◌ {A = Option (ℕ × Hold)} (cond b (Some y) (Some (k, h))) None → ⊥
        either true e = cc
        either false e = cc
none_earliest test k (d ∷ es) e (suc i) g passes stands =
    none_earliest test (k + 1) es (rest (cond (test k) (with_number k (as_hold d.what)) None) (earliest_from test (k + 1) es) e) i g
    (subst (λ n. test n ≡ true) (omega arith) passes) stands
  where
    rest : (a b : Option (ℕ × Hold)) → earlier a b ≡ None → b ≡ None
    rest None b e = e
    rest (Some a) None e = refl
    rest (Some a) (Some b) e = either (int_lt b.1.deadline a.1.deadline) e
      where
        either : (t : Bool) → ◌≡◌ {A = Option (ℕ × Hold)} (cond t (Some b) (Some a)) None → Some b ≡ None
        either true e = e
        either false e = cc

-- the earliest comes before each other that passes
earliest_first : (test : ℕ → Bool) (k : ℕ) (es : Entries) (x : ℕ × Hold) → earliest_from test k es ≡ Some x → (i : ℕ) (g : Hold) → test (k + i) ≡ true → hold_at es i ≡ Some g
    → Before x (k + i) g
earliest_first test k [] x e i g passes stands = absurd cc
earliest_first test k (d ∷ es) x e zero g passes stands =
    here (test k) (subst (λ n. test n ≡ true) (add-zero k) passes) (as_hold d.what) stands (earliest_from test (k + 1) es) e
  where
    same : (y : ℕ × Hold) (h : Hold) → h ≡ g → ◌≡◌ {A = Option (ℕ × Hold)} (Some (k, h)) (Some y) → Before y (k + zero) g
    same y h is e =
        let number : k ≡ y.0 = let f : ◌≡◌ {A = ℕ × Hold} (k, h) y = cc in ap (λ (z : ℕ × Hold). z.0) f in
        let its : h ≡ y.1 = let f : ◌≡◌ {A = ℕ × Hold} (k, h) y = cc in ap (λ (z : ℕ × Hold). z.1) f in
        inr (ap (λ (z : Hold). z.deadline) (sym its ∙ is), omega arith)

    sooner : (y z : ℕ × Hold) (h : Hold) → h ≡ g → int_lt y.1.deadline h.deadline ≡ true → ◌≡◌ {A = Option (ℕ × Hold)} (Some y) (Some z) → Before z (k + zero) g
    sooner y z h is t e =
        let its : y ≡ z = cc in
        let less : y.1.deadline <ℤ h.deadline = below y.1.deadline h.deadline t in
        inl (subst (λ (w : ℕ × Hold). w.1.deadline <ℤ g.deadline) its (subst (λ (w : Hold). y.1.deadline <ℤ w.deadline) is less))
      where
        below : (a b : ℤ) → int_lt a b ≡ true → a <ℤ b
        below a b t = omega (arith, ints)

    here : (b : Bool) → b ≡ true → (o : Option Hold) → o ≡ Some g → (rest : Option (ℕ × Hold)) → earlier (cond b (with_number k o) None) rest ≡ Some x → Before x (k + zero) g
    here false t o is rest e = absurd cc
    here true t None is rest e = absurd cc
    here true t (Some h) is None e = same x h (let f : h ≡ g = cc in f) e
    here true t (Some h) is (Some y) e = either (int_lt y.1.deadline h.deadline) refl e
      where
        either : (b : Bool) → int_lt y.1.deadline h.deadline ≡ b → cond b (Some y) (Some (k, h)) ≡ Some x → Before x (k + zero) g
        either true t e = sooner y x h (let f : h ≡ g = cc in f) t e
        either false t e = same x h (let f : h ≡ g = cc in f) e
earliest_first test k (d ∷ es) x e (suc i) g passes stands =
    let before : (y : ℕ × Hold) → earliest_from test (k + 1) es ≡ Some y → Before y (k + 1 + i) g
    = λ y is. earliest_first test (k + 1) es y is i g (subst (λ n. test n ≡ true) (omega arith) passes) stands in
    later before (earliest_from test (k + 1) es) refl e
  where
    next : k + 1 + i ≡ k + suc i
    next = omega arith

    passes_next : test (k + 1 + i) ≡ true
    passes_next = subst (λ n. test n ≡ true) (sym next) passes

    of_rest : ((y : ℕ × Hold) → earliest_from test (k + 1) es ≡ Some y → Before y (k + 1 + i) g) → (y : ℕ × Hold) → earliest_from test (k + 1) es ≡ Some y → Before y (k + suc i) g
    of_rest before y is = subst (λ n. Before y n g) next (before y is)

    chosen_rest : ((y : ℕ × Hold) → earliest_from test (k + 1) es ≡ Some y → Before y (k + 1 + i) g) → (y : ℕ × Hold) → earliest_from test (k + 1) es ≡ Some y → ◌≡◌ {A = Option (ℕ × Hold)} (Some y) (Some x) → Before x (k + suc i) g
    chosen_rest before y is e = subst (λ (z : ℕ × Hold). Before z (k + suc i) g) (some_same y x e) (of_rest before y is)

    ordered : (a b : ℤ) → int_lt b a ≡ false → (c : Bool) → int_lt a b ≡ c → (a <ℤ b) ⊎ (a ≡ b)
    ordered a b t true less = inl (omega (arith, ints))
    ordered a b t false less = inr (omega (arith, ints))

    no_later : (a b : ℤ) (n : ℕ) → int_lt b a ≡ false → k ≤ n → (a <ℤ b) ⊎ ((a ≡ b) × (k ≤ n))
    no_later a b n t late = elim (ordered a b t (int_lt a b) refl) [ inl less ↦ inl less | inr equal ↦ inr (equal, late) ]

    chosen_here : ((y : ℕ × Hold) → earliest_from test (k + 1) es ≡ Some y → Before y (k + 1 + i) g) → (y : ℕ × Hold) → earliest_from test (k + 1) es ≡ Some y → (h : Hold) → int_lt y.1.deadline h.deadline ≡ false → ◌≡◌ {A = Option (ℕ × Hold)} (Some (k, h)) (Some x)
        → Before x (k + suc i) g
    chosen_here before y is h t e =
        let number : (j : ℕ) × (y.0 ≡ k + 1 + j) × (test y.0 ≡ true) × (hold_at es j ≡ Some y.1) = earliest_stands test (k + 1) es y is in
        subst (λ (z : ℕ × Hold). Before z (k + suc i) g) (some_same (k, h) x e)
        (before-before (k, h) y (k + suc i) g (no_later h.deadline y.1.deadline y.0 t (omega (arith, number.1))) (of_rest before y is))

    either : ((y : ℕ × Hold) → earliest_from test (k + 1) es ≡ Some y → Before y (k + 1 + i) g) → (y : ℕ × Hold) → earliest_from test (k + 1) es ≡ Some y → (h : Hold) (b : Bool) → int_lt y.1.deadline h.deadline ≡ b → cond b (Some y) (Some (k, h)) ≡ Some x → Before x (k + suc i) g
    either before y is h true t e = chosen_rest before y is e
    either before y is h false t e = chosen_here before y is h t e

    pick : ((y : ℕ × Hold) → earliest_from test (k + 1) es ≡ Some y → Before y (k + 1 + i) g) → (y : ℕ × Hold) → earliest_from test (k + 1) es ≡ Some y → (b : Bool) (o : Option Hold) → earlier (cond b (with_number k o) None) (Some y) ≡ Some x → Before x (k + suc i) g
    pick before y is false o e = chosen_rest before y is e
    pick before y is true None e = chosen_rest before y is e
    pick before y is true (Some h) e = either before y is h (int_lt y.1.deadline h.deadline) refl e

    later : ((y : ℕ × Hold) → earliest_from test (k + 1) es ≡ Some y → Before y (k + 1 + i) g) → (rest : Option (ℕ × Hold)) → earliest_from test (k + 1) es ≡ rest → earlier (cond (test k) (with_number k (as_hold d.what)) None) rest ≡ Some x → Before x (k + suc i) g
    later before None is e = absurd (none_earliest test (k + 1) es is i g passes_next stands)
    later before (Some y) is e = pick before y is (test k) (as_hold d.what) e

-- the earliest of the open holds is open, and comes first
pub earliest_is_first : (j : Entries) (n : ℕ) (h : Hold) → earliest j ≡ Some (n, h) → IsEarliest j n h
earliest_is_first j n h is =
    let stands : (i : ℕ) × (n ≡ 0 + i) × (is_unanswered j n ≡ true) × (hold_at j i ≡ Some h) = earliest_stands (is_unanswered j) 0 j (n, h) is in
    let place : stands.0 ≡ n = omega (arith, stands.1) in
    record {
      is_open = rw stands.2 (subst (λ k. hold_at j k ≡ Some h) place stands.3);
      first = λ k g is_open. let parts = open_stands j k g is_open in
          subst (λ m. Before (n, h) m g) (zero-add k) (earliest_first (is_unanswered j) 0 j (n, h) is k g (subst (λ m. is_unanswered j m ≡ true) (sym (zero-add k)) parts.0) parts.1);
    }

-- where one is open and comes first it is the earliest
pub earliest_is : (j : Entries) (n : ℕ) (h : Hold) → IsEarliest j n h → earliest j ≡ Some (n, h)
earliest_is j n h is = of (earliest j) refl
  where
    number_is : (x : ℕ × Hold) → Before (n, h) x.0 x.1 → Before x n h → x.0 ≡ n
    number_is x (inl a) (inl b) = absurd (omega (arith, ints))
    number_is x (inl a) (inr b) = absurd (omega (arith, ints, b.0))
    number_is x (inr a) (inl b) = absurd (omega (arith, ints, a.0))
    number_is x (inr a) (inr b) = omega (arith, a.1, b.1)

    of : (o : Option (ℕ × Hold)) → earliest j ≡ o → o ≡ Some (n, h)
    of None e = let parts = open_stands j n h is.is_open in absurd (none_earliest (is_unanswered j) 0 j e n h (subst (λ m. is_unanswered j m ≡ true) (sym (zero-add n)) parts.0) parts.1)
    of (Some x) e =
        let its : IsEarliest j x.0 x.1 = earliest_is_first j x.0 x.1 e in
        let number : x.0 ≡ n = number_is x (is.first x.0 x.1 its.is_open) (its.first n h is.is_open) in
        let hold : x.1 ≡ h = some_same x.1 h (sym its.is_open ∙ ap (open_hold_at j) number ∙ is.is_open) in
        ap Some (rw (number, hold) refl)

-- where none is open there is none
pub earliest_none : (j : Entries) → ((n : ℕ) → open_hold_at j n ≡ None) → earliest j ≡ None
earliest_none j none = of (earliest j) refl
  where
    of : (o : Option (ℕ × Hold)) → earliest j ≡ o → o ≡ None
    of None e = refl
    of (Some x) e = let is = (earliest_is_first j x.0 x.1 e).is_open in let free = none x.0 in cc

-- ---- sweeps

-- the hold that a sweep takes is the earliest, and its deadline has come
pub swept_is_earliest : (book : PlainBook) (caller : By) (n : ℕ) → (expire_step book caller).reply ≡ Some n
    → (h : Hold) × IsEarliest book.entries n h × (h.deadline ≤ℤ moment_at book.entries caller.now)
unfolding expire_step
swept_is_earliest book caller n taken = of (due book.entries (moment_at book.entries caller.now)) refl taken
  where
    m : ℤ
    m = moment_at book.entries caller.now

    late : (a b : ℤ) → int_le a b ≡ true → a ≤ℤ b
    late a b e = omega (arith, ints)

    found : (o : Option (ℕ × Hold)) → earliest book.entries ≡ o → option_and_then (λ (x : ℕ × Hold). cond (int_le x.1.deadline m) (Some x.0) None) o ≡ Some n
        → (h : Hold) × IsEarliest book.entries n h × (h.deadline ≤ℤ m)
    found None is e = absurd cc
    found (Some x) is e =
        let t : (int_le x.1.deadline m ≡ true) × (◌≡◌ {A = Option ℕ} (Some x.0) (Some n)) = chosen (int_le x.1.deadline m) (Some x.0) n e in
        let number : x.0 ≡ n = some_same x.0 n t.1 in
        (x.1, subst (λ k. IsEarliest book.entries k x.1) number (earliest_is_first book.entries x.0 x.1 is), late x.1.deadline m t.0)

    of : (o : Option ℕ) → due book.entries m ≡ o → (expire_booked book caller o).reply ≡ Some n → (h : Hold) × IsEarliest book.entries n h × (h.deadline ≤ℤ m)
    of None is e = absurd cc
    of (Some k) is e = let same : k ≡ n = some_same k n e in found (earliest book.entries) refl (is ∙ ap Some same)

-- where a sweep takes none each open hold still has time
pub unswept_has_time : (book : PlainBook) (caller : By) → (expire_step book caller).reply ≡ None
    → (n : ℕ) (h : Hold) → open_hold_at book.entries n ≡ Some h → moment_at book.entries caller.now <ℤ h.deadline
unfolding expire_step
unswept_has_time book caller taken n h is_open = of (due book.entries (moment_at book.entries caller.now)) refl taken
  where
    m : ℤ
    m = moment_at book.entries caller.now

    early : (a b c : ℤ) → int_le a b ≡ false → (a <ℤ c) ⊎ ((a ≡ c) × (0 ≤ n)) → b <ℤ c
    early a b c e (inl less) = omega (arith, ints)
    early a b c e (inr equal) = let same : a ≡ c = equal.0 in omega (arith, ints, same)

    found : (o : Option (ℕ × Hold)) → earliest book.entries ≡ o → option_and_then (λ (x : ℕ × Hold). cond (int_le x.1.deadline m) (Some x.0) None) o ≡ None → m <ℤ h.deadline
    found None is e =
        let parts = open_stands book.entries n h is_open in
        absurd (none_earliest (is_unanswered book.entries) 0 book.entries is n h (subst (λ k. is_unanswered book.entries k ≡ true) (sym (zero-add n)) parts.0) parts.1)
    found (Some x) is e = by_test (int_le x.1.deadline m) refl e
      where
        weaker : (x.1.deadline <ℤ h.deadline) ⊎ ((x.1.deadline ≡ h.deadline) × (x.0 ≤ n)) → (x.1.deadline <ℤ h.deadline) ⊎ ((x.1.deadline ≡ h.deadline) × (0 ≤ n))
        weaker (inl less) = inl less
        weaker (inr equal) = inr (equal.0, omega arith)

        by_test : (b : Bool) → int_le x.1.deadline m ≡ b → ◌≡◌ {A = Option ℕ} (cond b (Some x.0) None) None → m <ℤ h.deadline
        by_test true t e = absurd cc
        by_test false t e = early x.1.deadline m h.deadline t (weaker ((earliest_is_first book.entries x.0 x.1 is).first n h is_open))

    of : (o : Option ℕ) → due book.entries m ≡ o → (expire_booked book caller o).reply ≡ None → m <ℤ h.deadline
    of (Some k) is e = absurd cc
    of None is e = found (earliest book.entries) refl is

-- ---- in a table of deadlines

-- the hold whose deadline comes first in the table is the earliest
pub first_is_earliest : (j : Entries) (m : FinMap nat_cmp ℤ) (n : ℕ) (deadline : ℤ) (h : Hold) → AreOpen j m → fin_map.get m n ≡ Some deadline
    → ((k : ℕ) (d : ℤ) → fin_map.get m k ≡ Some d → IsNoLater deadline n d k) → hold_at j n ≡ Some h → earliest j ≡ Some (n, h)
first_is_earliest j m n deadline h open_now at first stands =
    let held : (g : Hold) × (open_hold_at j n ≡ Some g) × (g.deadline ≡ deadline) = of (open_hold_at j n) refl (sym (open_now n) ∙ at) in
    let same : held.0 ≡ h = some_same held.0 h (sym (open_stands j n held.0 held.1).1 ∙ stands) in
    earliest_is j n h (record {
      is_open = held.1 ∙ ap Some same;
      first = λ k g is. subst (λ d. IsNoLater d n g.deadline k) (sym held.2 ∙ ap (λ (x : Hold). x.deadline) same) (first k g.deadline (open_now k ∙ ap deadline_of is));
    })
  where
    of : (o : Option Hold) → open_hold_at j n ≡ o → deadline_of o ≡ Some deadline → (g : Hold) × (open_hold_at j n ≡ Some g) × (g.deadline ≡ deadline)
    of None is e = absurd cc
    of (Some g) is e = (g, is, some_same g.deadline deadline e)

-- what the table has first stands in the journal
pub first_stands : (j : Entries) (m : FinMap nat_cmp ℤ) (n : ℕ) (deadline : ℤ) → AreOpen j m → fin_map.get m n ≡ Some deadline → hold_at j n ≡ None → ⊥
first_stands j m n deadline open_now at none = of (open_hold_at j n) refl (sym (open_now n) ∙ at)
  where
    of : (o : Option Hold) → open_hold_at j n ≡ o → deadline_of o ≡ Some deadline → ⊥
    of None is e = cc
    of (Some g) is e = let stands = (open_stands j n g is).1 in cc
