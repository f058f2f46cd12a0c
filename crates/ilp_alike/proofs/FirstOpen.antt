-- Of journals that are alike the same open settlement to a peer comes next.
use Rattle.std.proofs.Common.{◌≡◌, ◌⊎◌, ℕ, zero, suc, ◌+◌, ◌<◌, ◌≤◌, ℤ, Bool, true, false, cond, ◌&&◌, List, [], ◌∷◌, Option, Some, None, inl, inr, refl, sym, ap, ap₂, ◌∙◌, subst, arith, zero-add, add-zero, unwrap_or, option_map, option_and_then, slice_get, ◌==◌, IfSome}
use Rattle.std.specs.Prelude.{nat_lt}
use Rattle.std.specs.Option.{option_or}
use Rattle.std.proofs.lemmas.Bool.{cases_order, and_parts, eqb-true, eq-eqb, cases_Bool, lt-ltb, ltb-true, ltb-false}
use Rattle.ilp_order.specs.Places.{first_from}
use Rattle.ilp_order.proofs.RefusalLemmas.{chosen, some_same}
use Rattle.ilp_journal.specs.declared.entry.Entry.{Entry}
use Rattle.ilp_journal.specs.declared.entry.What.{What}
use Rattle.ilp_journal.specs.declared.entry.Ask.{Ask}
use Rattle.ilp_journal.specs.Journal.{Entries, as_ask, ask_at, is_unclosed, open_ask_at, is_ask_of, is_behind, next_open_number, next_open_ask}
use Rattle.ilp_rules.proofs.Standing.{first_found}
use Rattle.ilp_book.specs.SettleStep.{told_ask, open_settlement}
use Rattle.ilp_alike.specs.Alike.{asked_with}
use Rattle.ilp_alike.proofs.Numbered.{IsNumbering}
use Rattle.ilp_alike.proofs.AlikeJournals.{AreAlike}

-- the first place that passes lies behind no other
first_least : {X : Type 0} (test : ℕ → X → Bool) (s n : ℕ) (xs : List X) → first_from test s xs ≡ Some n → (m : ℕ) (x : X) → slice_get xs m ≡ Some x → test (s + m) x ≡ true → n ≤ s + m
first_least test s n [] is m x at passes = absurd cc
first_least {X} test s n (z ∷ xs) is m x at passes = by (test s z) refl is m at passes (first_least test (s + 1) n xs)
  where
    by : (b : Bool) → test s z ≡ b → cond b (Some s) (first_from test (s + 1) xs) ≡ Some n → (m : ℕ) → slice_get (z ∷ xs) m ≡ Some x → test (s + m) x ≡ true
        → (first_from test (s + 1) xs ≡ Some n → (k : ℕ) (y : X) → slice_get xs k ≡ Some y → test (s + 1 + k) y ≡ true → n ≤ s + 1 + k) → n ≤ s + m
    by true t e m at passes rest = let same : s ≡ n = some_same s n e in omega (arith, same)
    by false t e zero at passes rest = let here : test s z ≡ true = subst (λ k. test k z ≡ true) (add-zero s) (subst (λ y. test (s + zero) y ≡ true) (sym (some_same z x at)) passes) in cc
    by false t e (suc m) at passes rest = let place : s + suc m ≡ s + 1 + m = omega arith in omega (arith, rest e m x at (subst (λ k. test k x ≡ true) place passes))

-- where none passes no element does
first_missing : {X : Type 0} (test : ℕ → X → Bool) (s : ℕ) (xs : List X) → first_from test s xs ≡ None → (m : ℕ) (x : X) → slice_get xs m ≡ Some x → test (s + m) x ≡ true → ⊥
first_missing test s [] is m x at passes = cc
first_missing {X} test s (z ∷ xs) is m x at passes = by (test s z) refl is m at passes (first_missing test (s + 1) xs)
  where
    by : (b : Bool) → test s z ≡ b → cond b (Some s) (first_from test (s + 1) xs) ≡ None → (m : ℕ) → slice_get (z ∷ xs) m ≡ Some x → test (s + m) x ≡ true
        → (first_from test (s + 1) xs ≡ None → (k : ℕ) (y : X) → slice_get xs k ≡ Some y → test (s + 1 + k) y ≡ true → ⊥) → ⊥
    by true t e m at passes rest = cc
    by false t e zero at passes rest = let here : test s z ≡ true = subst (λ k. test k z ≡ true) (add-zero s) (subst (λ y. test (s + zero) y ≡ true) (sym (some_same z x at)) passes) in cc
    by false t e (suc m) at passes rest = let place : s + suc m ≡ s + 1 + m = omega arith in rest e m x at (subst (λ k. test k x ≡ true) place passes)

module _ (q : ℕ) (tried : Option ℕ) where
  abbrev is_next : Entries → ℕ → Entry → Bool
  is_next j n e = (is_ask_of q e.what && is_unclosed j n) && is_behind tried n

  -- an open settlement to the peer that may come next
  abbrev MayCome : Entries → ℕ → Ask → Type 0
  MayCome j n a = (open_ask_at j n ≡ Some a) × (a.peer ≡ q) × (is_behind tried n ≡ true)

  -- the number that is found is that of one
  found_next : (j : Entries) (n : ℕ) → next_open_number j q tried ≡ Some n → (a : Ask) × MayCome j n a
  found_next j n is =
      let f = first_found (is_next j) 0 n j is in
      let place : f.0 ≡ n = omega (arith, f.2) in
      let two = and_parts (is_ask_of q f.1.what && is_unclosed j n) (is_behind tried n) f.4 in
      let one = and_parts (is_ask_of q f.1.what) (is_unclosed j n) two.0 in
      of f.1.what (as_ask f.1.what) refl one.0 one.1 two.1 (ap (option_and_then (λ (e : Entry). as_ask e.what)) (subst (λ k. slice_get j k ≡ Some f.1) place f.3))
    where
      of : (w : What) (o : Option Ask) → as_ask w ≡ o → unwrap_or (option_map (λ (a : Ask). a.peer == q) o) false ≡ true → is_unclosed j n ≡ true → is_behind tried n ≡ true → ask_at j n ≡ as_ask w
          → (a : Ask) × MayCome j n a
      of w None asks its unclosed behind at = absurd cc
      of w (Some a) asks its unclosed behind at = (a, (ap₂ (λ b o. cond b o None) unclosed (at ∙ asks), eqb-true a.peer q its, behind))

  -- and each of them passes
  passes_next : (j : Entries) (m : ℕ) (a : Ask) → MayCome j m a → (e : Entry) × (slice_get j m ≡ Some e) × (is_next j (0 + m) e ≡ true)
  passes_next j m a may = let parts = chosen (is_unclosed j m) (ask_at j m) a may.0 in at (slice_get j m) refl parts.0 parts.1
    where
      all : (b c d : Bool) → b ≡ true → c ≡ true → d ≡ true → ((b && c) && d) ≡ true
      all b c d one two three = rw (one, two, three) refl

      at : (o : Option Entry) → slice_get j m ≡ o → is_unclosed j m ≡ true → option_and_then (λ (e : Entry). as_ask e.what) o ≡ Some a → (e : Entry) × (slice_get j m ≡ Some e) × (is_next j (0 + m) e ≡ true)
      at None stands unclosed asks = absurd cc
      at (Some e) stands unclosed asks =
          let its : is_ask_of q e.what ≡ true = ap (λ o. unwrap_or (option_map (λ (x : Ask). x.peer == q) o) false) asks ∙ eq-eqb a.peer q may.1 in
          (e, stands, subst (λ n. is_next j n e ≡ true) (sym (zero-add m)) (all (is_ask_of q e.what) (is_unclosed j m) (is_behind tried m) its unclosed may.2))

  least_next : (j : Entries) (n m : ℕ) (a : Ask) → next_open_number j q tried ≡ Some n → MayCome j m a → n ≤ m
  least_next j n m a is may = let p = passes_next j m a may in omega (arith, first_least (is_next j) 0 n j is m p.0 p.1 p.2)

  missing_next : (j : Entries) (m : ℕ) (a : Ask) → next_open_number j q tried ≡ None → MayCome j m a → ⊥
  missing_next j m a is may = let p = passes_next j m a may in first_missing (is_next j) 0 j is m p.0 p.1 p.2

  next_none : (j : Entries) → next_open_number j q tried ≡ None → next_open_ask j q tried ≡ None
  next_none j is = ap (option_and_then {U = ℕ × Ask} (λ n. option_map (λ (a : Ask). (n, a)) (ask_at j n))) is

  next_some : (j : Entries) (n : ℕ) (a : Ask) → next_open_number j q tried ≡ Some n → open_ask_at j n ≡ Some a → next_open_ask j q tried ≡ Some (n, a)
  next_some j n a is open_now =
      ap (option_and_then {U = ℕ × Ask} (λ n. option_map (λ (a : Ask). (n, a)) (ask_at j n))) is
      ∙ ap (option_map {U = ℕ × Ask} (λ (a : Ask). (n, a))) (chosen (is_unclosed j n) (ask_at j n) a open_now).1

module _ (count : ℕ) (assets : List ℕ) (first later : ℕ) (number : ℕ → ℕ) (IsNamed : ℕ → Type 0) (start : ℤ) (is : IsNumbering first later number IsNamed) (before after : Entries)
    (alike : AreAlike count assets first later number IsNamed start before after) (q : ℕ) (known : q < count) where
  -- a settlement by its number before
  abbrev pub ask_before : ℕ × Ask → ℕ × Ask
  ask_before x = (number x.0, x.1)

  module _ (tried : Option ℕ) (named_tried : IfSome tried IsNamed) where
    abbrev tried_before : Option ℕ
    tried_before = option_map number tried

    -- what comes behind the one that was tried does so in both
    behind_same : (n : ℕ) → IsNamed n → is_behind tried_before (number n) ≡ is_behind tried n
    behind_same n named = of tried named_tried
      where
        of : (o : Option ℕ) → IfSome o IsNamed → is_behind (option_map number o) (number n) ≡ is_behind o n
        of None also = refl
        of (Some t) also = by (nat_lt t n) refl
          where
            no_more : n ≤ t → number t < number n → ⊥
            no_more low less = elim (cases_order n t) [
              | inl same ↦ omega (arith, ap number same, less)
              | inr other ↦ elim other [ inl under ↦ omega (arith, is.rising n t named also under, less) | inr over ↦ omega (arith, over, low) ]
            ]

            by : (b : Bool) → nat_lt t n ≡ b → nat_lt (number t) (number n) ≡ b
            by true e = lt-ltb (number t) (number n) (is.rising t n also named (ltb-true t n e))
            by false e = elim (cases_Bool (nat_lt (number t) (number n))) [ inl less ↦ absurd (no_more (ltb-false t n e) (ltb-true (number t) (number n) less)) | inr not_less ↦ not_less ]

    -- what may come next after may come next before
    comes_before : (k : ℕ) (a : Ask) → MayCome q tried after k a → MayCome q tried_before before (number k) a
    comes_before k a may = let named = alike.found_after k a may.0 in (sym (alike.asks k named) ∙ may.0, may.1, behind_same k named ∙ may.2)

    -- and the other way round
    comes_after : (n : ℕ) (b : Ask) → MayCome q tried_before before n b → (k : ℕ) × IsNamed k × (number k ≡ n) × MayCome q tried after k b
    comes_after n b may =
        let found = alike.found_before n b may.0 (omega (arith, may.1, known)) in
        (found.0, found.1, found.2, (alike.asks found.0 found.1 ∙ ap (open_ask_at before) found.2 ∙ may.0, may.1, sym (behind_same found.0 found.1) ∙ ap (is_behind tried_before) found.2 ∙ may.2))

    pub next_alike : option_map ask_before (next_open_ask after q tried) ≡ next_open_ask before q (option_map number tried)
    next_alike = of (next_open_number after q tried) (next_open_number before q tried_before) refl refl
      where
        both : (k n : ℕ) (a b : Ask) → next_open_number after q tried ≡ Some k → next_open_number before q tried_before ≡ Some n → MayCome q tried after k a → MayCome q tried_before before n b
            → ◌≡◌ {A = ℕ × Ask} (number k, a) (n, b)
        both k n a b is_k is_n may_k may_n =
            let there = comes_before k a may_k in
            let back = comes_after n b may_n in
            let low : n ≤ number k = least_next q tried_before before n (number k) a is_n there in
            let high : k ≤ back.0 = least_next q tried after k back.0 b is_k back.3 in
            let one : number k ≡ n = by back.0 (cases_order k back.0) (alike.found_after k a may_k.0) back.1 back.2 low high in
            let other : a ≡ b = some_same a b (sym there.0 ∙ ap (open_ask_at before) one ∙ may_n.0) in
            ap₂ (λ (i : ℕ) (c : Ask). (i, c)) one other
          where
            by : (m : ℕ) → (k ≡ m) ⊎ ((k < m) ⊎ (m < k)) → IsNamed k → IsNamed m → number m ≡ n → n ≤ number k → k ≤ m → number k ≡ n
            by m (inl same) one two is_m low high = ap number same ∙ is_m
            by m (inr (inl before_it)) one two is_m low high = absurd (omega (arith, is.rising k m one two before_it, is_m, low))
            by m (inr (inr behind_it)) one two is_m low high = absurd (omega (arith, behind_it, high))

        of : (o p : Option ℕ) → next_open_number after q tried ≡ o → next_open_number before q tried_before ≡ p → option_map ask_before (next_open_ask after q tried) ≡ next_open_ask before q tried_before
        of None None is_k is_n = ap (option_map ask_before) (next_none q tried after is_k) ∙ sym (next_none q tried_before before is_n)
        of None (Some n) is_k is_n = let b = found_next q tried_before before n is_n in let back = comes_after n b.0 b.1 in absurd (missing_next q tried after back.0 b.0 is_k back.3)
        of (Some k) None is_k is_n = let a = found_next q tried after k is_k in absurd (missing_next q tried_before before (number k) a.0 is_n (comes_before k a.0 a.1))
        of (Some k) (Some n) is_k is_n =
            let a = found_next q tried after k is_k in
            let b = found_next q tried_before before n is_n in
            ap (option_map ask_before) (next_some q tried after k a.0 is_k a.1.0) ∙ ap Some (both k n a.0 b.0 is_k is_n a.1 b.1) ∙ sym (next_some q tried_before before n b.0 is_n b.1.0)

  -- so the same one is told
  pub told_alike : (tried : Option ℕ) → IfSome tried IsNamed → option_map (asked_with number) (open_settlement after q tried) ≡ open_settlement before q (option_map number tried)
  told_alike tried named =
      of (next_open_ask after q tried) (next_open_ask after q None)
      ∙ ap₂ (λ (x y : Option (ℕ × Ask)). option_map told_ask (option_or x y)) (next_alike tried named) (next_alike None tt)
    where
      of : (x y : Option (ℕ × Ask)) → option_map (asked_with number) (option_map told_ask (option_or x y)) ≡ option_map told_ask (option_or (option_map {U = ℕ × Ask} ask_before x) (option_map {U = ℕ × Ask} ask_before y))
      of None None = refl
      of None (Some y) = refl
      of (Some x) y = refl
