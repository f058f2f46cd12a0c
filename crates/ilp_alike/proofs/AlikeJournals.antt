-- Two journals that answer alike: one began with what the other brought forward, and behind that both have the same entries, but for
-- the numbers in them.
use Rattle.std.proofs.Common.{◌≡◌, ℕ, ◌+◌, ◌<◌, ◌≤◌, ℤ, pos, ◌+ℤ◌, ◌-ℤ◌, Bool, true, false, cond, not, ◌||◌, List, [], ◌∷◌, ◌++◌, length, Option, Some, None, inl, inr, refl, sym, ap, ap₂, ◌∙◌, subst, arith, length-append, IfSome, IsSome, IsNone, is_some, unwrap_or, option_map, ◌==◌, nat_le, zero-add, ◌&&◌}
use Rattle.std.specs.Str.{bytes_eq}
use Rattle.std.specs.Prelude.{◌≤ℤ◌}
use Rattle.std.specs.Int.{int_max}
use Rattle.std.specs.Option.{option_or}
use Rattle.std.proofs.lemmas.Bool.{cases_order, eq-eqb, ne_eqb, eqb-true, eqb-false, le-leb}
use Rattle.std.proofs.lemmas.List.Sums.{fold-append}
use Rattle.ilp_order.specs.Places.{Each}
use Rattle.ilp_order.proofs.RefusalLemmas.{chosen, is_none_at}
use Rattle.ilp_order.proofs.Sums.{Each-push, first_from-append}
use Rattle.ilp_journal.specs.declared.entry.Credited.{Credited}
use Rattle.ilp_journal.specs.declared.entry.Entry.{Entry}
use Rattle.ilp_journal.specs.declared.entry.What.{What}
use Rattle.ilp_journal.specs.declared.entry.What.TheVariants as what
use Rattle.ilp_journal.specs.declared.entry.Hold.{Hold}
use Rattle.ilp_journal.specs.declared.entry.Ask.{Ask}
use Rattle.ilp_journal.specs.Journal.{Entries, last_moment, as_hold, as_ask, answered, closed, released, is_number, hold_at, ask_at, answer_of, closing_of, is_unanswered, is_unclosed, open_hold_at, open_ask_at, of_hold, paid_to, open_asks, AnswersOnce, ClosesOnce}
use Rattle.ilp_journal.specs.Balance.{rise, fall, balance}
use Rattle.ilp_journal.specs.Credits.{as_credit, kept_credit, has_key, kept_at}
use Rattle.ilp_journal.specs.TrialBalance.{amount_in, amount_out, total_in, total_out, of_named, of_named_ask, since}
use Rattle.ilp_journal.proofs.Naming.{ask_at-push, is_some-place-push, place_of_last, answer_of-push, closing_of-push}
use Rattle.ilp_journal.proofs.Growth.{balance-push, open_hold_at-push}
use Rattle.ilp_journal.proofs.BooksGrowth.{total_in-push, total_out-push}
use Rattle.ilp_journal.proofs.OpenGrowth.{open_asks-push}
use Rattle.ilp_journal.proofs.Made.{first_some-append}
use Rattle.ilp_alike.proofs.Renamed.{credit_under, kept_credit_is}
use Rattle.ilp_alike.proofs.Numbered.{numbered, IsNumbering, as_hold-numbered, as_ask-numbered, as_credit-numbered, answered-numbered, closed-numbered, released-numbered, fall-numbered, released_answered}

if_some : {X : Type 0} {P Q : X → Type 0} (o : Option X) → IfSome o P → ((x : X) → P x → Q x) → IfSome o Q
if_some None h step = tt
if_some (Some x) h step = step x h

eqb_iff : (a b c d : ℕ) → (a ≡ b → c ≡ d) → (c ≡ d → a ≡ b) → (a == b) ≡ (c == d)
eqb_iff a b c d there back = by (c == d) refl
  where
    by : (t : Bool) → (c == d) ≡ t → (a == b) ≡ t
    by true is = eq-eqb a b (back (eqb-true c d is))
    by false is = ne_eqb a b (λ same. eqb-false c d is (there same))

-- ---- what is open after one more entry

some_under : {X : Type 0} (b : Bool) (o : Option X) → IsSome (cond b o None) → (b ≡ true) × IsSome o
some_under true o h = (refl, h)
some_under false o h = absurd cc

free_hold : (j : Entries) (n : ℕ) → IsSome (open_hold_at j n) → IsSome (hold_at j n) × IsNone (answer_of j n)
free_hold j n h = let found = some_under (is_unanswered j n) (hold_at j n) h in (found.1, is_none_at (answer_of j n) found.0)

free_ask : (j : Entries) (n : ℕ) → IsSome (open_ask_at j n) → IsSome (ask_at j n) × IsNone (closing_of j n)
free_ask j n h = let found = some_under (is_unclosed j n) (ask_at j n) h in (found.1, is_none_at (closing_of j n) found.0)

open_ask_at-push : (j : Entries) (e : Entry) (n : ℕ) → Each ClosesOnce j → ClosesOnce j e
    → open_ask_at (j ++ e ∷ []) n ≡ cond (n == length j) (as_ask e.what) (cond (is_number n (closed e.what)) None (open_ask_at j n))
open_ask_at-push j e n each last = by_test (n == length j) refl
  where
    either : (a b : Bool) (h : Option Ask) → cond (not (a || b)) h None ≡ cond b None (cond (not a) h None)
    either true true h = refl
    either true false h = refl
    either false true h = refl
    either false false h = refl

    by_test : (b : Bool) → (n == length j) ≡ b → open_ask_at (j ++ e ∷ []) n ≡ cond b (as_ask e.what) (cond (is_number n (closed e.what)) None (open_ask_at j n))
    by_test true here =
        let P : ℕ → Type 0 = λ k. IsNone (closing_of (j ++ e ∷ []) k) in
        let fresh : IsNone (closing_of (j ++ e ∷ []) n) = subst P (sym (eqb-true n (length j) here)) (place_of_last closed as_ask j e each last) in
        rw fresh (ask_at-push j e n ∙ rw here refl)
    by_test false here =
        let stays : ask_at (j ++ e ∷ []) n ≡ ask_at j n = ask_at-push j e n ∙ rw here refl in
        rw (is_some-place-push closed n j e, stays) (either (is_some (closing_of j n)) (is_number n (closed e.what)) (ask_at j n))

-- ---- journals that are alike

module _ (count : ℕ) (assets : List ℕ) (first later : ℕ) (number : ℕ → ℕ) (IsNamed : ℕ → Type 0) (start : ℤ) where
  -- Of the peers below the count both owe the same, keep the same credits and have the same open; totals count from the places at
  -- which the further entries begin.
  pub record AreAlike (before after : Entries) : Type 0 where
    -- both are journals, and as much stands behind the places
    pub answers_before : Each AnswersOnce before
    pub answers_after : Each AnswersOnce after
    pub closes_before : Each ClosesOnce before
    pub closes_after : Each ClosesOnce after
    pub lengths : length before + later ≡ length after + first
    pub begun : later ≤ length after
    pub moments : (m : ℤ) → start ≤ℤ m → int_max m (last_moment after) ≡ int_max m (last_moment before)
    -- sums
    pub balances : (q : ℕ) → q < count → balance after q ≡ balance before q
    pub totals_in : (x : ℕ) → total_in assets later after x ≡ total_in assets first before x
    pub totals_out : (x : ℕ) → total_out assets later after x ≡ total_out assets first before x
    -- holds, which are open behind the places alone
    pub holds : (k : ℕ) → later ≤ k → open_hold_at after k ≡ open_hold_at before (number k)
    pub no_holds_after : (k : ℕ) → k < later → open_hold_at after k ≡ None
    pub no_holds_before : (k : ℕ) → k < first → open_hold_at before k ≡ None
    pub answers : (k : ℕ) → later ≤ k → option_map number (answer_of after k) ≡ answer_of before (number k)
    -- settlements, of which the open ones are named
    pub asks : (k : ℕ) → IsNamed k → open_ask_at after k ≡ open_ask_at before (number k)
    pub closings : (k : ℕ) → IsNamed k → option_map number (closing_of after k) ≡ closing_of before (number k)
    pub found_before : (m : ℕ) (a : Ask) → open_ask_at before m ≡ Some a → a.peer < count → (k : ℕ) × IsNamed k × (number k ≡ m)
    pub found_after : (k : ℕ) (a : Ask) → open_ask_at after k ≡ Some a → IsNamed k
    pub open_counts : (q : ℕ) → q < count → open_asks after q ≡ open_asks before q
    -- credits
    pub credits : (q : ℕ) (key : List ℕ) → q < count → kept_credit after q key ≡ kept_credit before q key
    pub kept_numbers : (q : ℕ) (key : List ℕ) → q < count → option_map number (kept_at after q key) ≡ kept_at before q key

  -- an entry ends what is open
  pub record Joins (after : Entries) (w : What) : Type 0 where
    pub ends : IfSome (answered w) (λ k. (later ≤ k) × IsSome (open_hold_at after k))
    pub closes : IfSome (closed w) (λ k. IsNamed k × IsSome (open_ask_at after k))

  module _ (is : IsNumbering first later number IsNamed) (before after : Entries) (alike : AreAlike before after) where
    first_reached : first ≤ length before
    first_reached = omega (arith, alike.lengths, alike.begun)

    -- the same number stands at the end of both
    pub last_number : number (length after) ≡ length before
    last_number = omega (arith, is.shifted (length after) alike.begun, alike.lengths)

    since_first : (k : ℕ) → later ≤ k → first ≤ number k
    since_first k high = omega (arith, is.shifted k high, high)

    one_number : (k m : ℕ) → IsNamed k → IsNamed m → number k ≡ number m → k ≡ m
    one_number k m named also same = elim (cases_order k m) [
      | inl equal ↦ equal
      | inr other ↦ elim other [
        | inl less ↦ absurd (omega (arith, is.rising k m named also less, same))
        | inr more ↦ absurd (omega (arith, is.rising m k also named more, same))
      ]
    ]

    same_number : (k m : ℕ) → IsNamed k → IsNamed m → (number k == number m) ≡ (k == m)
    same_number k m named also = eqb_iff (number k) (number m) k m (one_number k m named also) (ap number)

    same_last : (k : ℕ) → IsNamed k → (number k == length before) ≡ (k == length after)
    same_last k named =
        ap (λ n. number k == n) (sym last_number) ∙ same_number k (length after) named (is.named (length after) alike.begun)

    same_named : (k : ℕ) (o : Option ℕ) → IsNamed k → IfSome o IsNamed → is_number (number k) (option_map number o) ≡ is_number k o
    same_named k None named also = refl
    same_named k (Some m) named also = same_number k m named also

    hold_same : (k : ℕ) → later ≤ k → IsSome (open_hold_at after k) → hold_at after k ≡ hold_at before (number k)
    hold_same k high some = of (open_hold_at after k) refl some
      where
        of : (o : Option Hold) → open_hold_at after k ≡ o → IsSome o → hold_at after k ≡ hold_at before (number k)
        of None is some = cc
        of (Some h) is some =
            (chosen (is_unanswered after k) (hold_at after k) h is).1
            ∙ sym (chosen (is_unanswered before (number k)) (hold_at before (number k)) h (sym (alike.holds k high) ∙ is)).1

    ask_same : (k : ℕ) → IsNamed k → IsSome (open_ask_at after k) → ask_at after k ≡ ask_at before (number k)
    ask_same k named some = of (open_ask_at after k) refl some
      where
        of : (o : Option Ask) → open_ask_at after k ≡ o → IsSome o → ask_at after k ≡ ask_at before (number k)
        of None is some = cc
        of (Some a) is some =
            (chosen (is_unclosed after k) (ask_at after k) a is).1
            ∙ sym (chosen (is_unclosed before (number k)) (ask_at before (number k)) a (sym (alike.asks k named) ∙ is)).1

    -- ---- one more entry of both

    module _ (e d : Entry) (moment : e.moment ≡ d.moment) (same : d.what ≡ numbered number e.what) (joins : Joins after e.what) where
      holds_is : as_hold d.what ≡ as_hold e.what
      holds_is = ap as_hold same ∙ as_hold-numbered number e.what

      asks_is : as_ask d.what ≡ as_ask e.what
      asks_is = ap as_ask same ∙ as_ask-numbered number e.what

      answered_is : answered d.what ≡ option_map number (answered e.what)
      answered_is = ap answered same ∙ answered-numbered number e.what

      closed_is : closed d.what ≡ option_map number (closed e.what)
      closed_is = ap closed same ∙ closed-numbered number e.what

      named_answered : IfSome (answered e.what) IsNamed
      named_answered = if_some (answered e.what) joins.ends (λ k h. is.named k h.0)

      named_closed : IfSome (closed e.what) IsNamed
      named_closed = if_some (closed e.what) joins.closes (λ k h. h.0)

      answers_e : AnswersOnce after e
      answers_e = if_some (answered e.what) joins.ends (λ k h. free_hold after k h.1)

      closes_e : ClosesOnce after e
      closes_e = if_some (closed e.what) joins.closes (λ k h. free_ask after k h.1)

      answers_d : AnswersOnce before d
      answers_d = subst (λ o. IfSome o (λ n. IsSome (hold_at before n) × IsNone (answer_of before n))) (sym answered_is) (of (answered e.what) joins.ends)
        where
          of : (o : Option ℕ) → IfSome o (λ k. (later ≤ k) × IsSome (open_hold_at after k)) → IfSome (option_map number o) (λ n. IsSome (hold_at before n) × IsNone (answer_of before n))
          of None h = tt
          of (Some k) h = free_hold before (number k) (subst IsSome (alike.holds k h.0) h.1)

      closes_d : ClosesOnce before d
      closes_d = subst (λ o. IfSome o (λ n. IsSome (ask_at before n) × IsNone (closing_of before n))) (sym closed_is) (of (closed e.what) joins.closes)
        where
          of : (o : Option ℕ) → IfSome o (λ k. IsNamed k × IsSome (open_ask_at after k)) → IfSome (option_map number o) (λ n. IsSome (ask_at before n) × IsNone (closing_of before n))
          of None h = tt
          of (Some k) h = free_ask before (number k) (subst IsSome (alike.asks k h.0) h.1)

      -- balances
      rise_same : (q : ℕ) (w : What) → IfSome (answered w) (λ k. (later ≤ k) × IsSome (open_hold_at after k)) → IfSome (closed w) (λ k. IsNamed k × IsSome (open_ask_at after k))
          → rise after q w ≡ rise before q (numbered number w)
      rise_same q (what.Hold h) ending closes = refl
      rise_same q (what.Fulfilled hold preimage) ending closes = ap (λ o. unwrap_or (option_map (λ (h : Hold). cond (h.to == q) h.out 0) o) 0) (hold_same hold ending.0 ending.1)
      rise_same q (what.Released hold cause) ending closes = ap (λ o. unwrap_or (option_map (λ (h : Hold). cond (h.from == q) h.amount 0) o) 0) (hold_same hold ending.0 ending.1)
      rise_same q (what.Credited c) ending closes = refl
      rise_same q (what.Asked a) ending closes = refl
      rise_same q (what.Confirmed ask) ending closes = refl
      rise_same q (what.Undone ask) ending closes = ap (λ o. unwrap_or (option_map (λ (x : Ask). cond (x.peer == q) x.amount 0) o) 0) (ask_same ask closes.0 closes.1)
      rise_same q (what.Opened peer b) ending closes = refl
      rise_same q (what.Known c) ending closes = refl
      rise_same q (what.Pending peer amount key) ending closes = refl

      changed : (x y : ℤ) (r s f g : ℕ) → x ≡ y → r ≡ s → f ≡ g → x +ℤ pos r -ℤ pos f ≡ y +ℤ pos s -ℤ pos g
      changed x y r s f g one two three = rw (one, two, three) refl

      balances_on : (q : ℕ) → q < count → balance (after ++ e ∷ []) q ≡ balance (before ++ d ∷ []) q
      balances_on q known =
          balance-push after e q alike.answers_after alike.closes_after answers_e closes_e
          ∙ changed (balance after q) (balance before q) (rise after q e.what) (rise before q d.what) (fall q e.what) (fall q d.what) (alike.balances q known)
          (rise_same q e.what joins.ends joins.closes ∙ ap (rise before q) (sym same)) (sym (ap (fall q) same ∙ fall-numbered number q e.what))
          ∙ sym (balance-push before d q alike.answers_before alike.closes_before answers_d closes_d)

      -- totals
      released_same : (f : Hold → ℕ) → of_named after f (since later (released e.what)) ≡ of_named before f (since first (released d.what))
      released_same f =
          of (released e.what) (released_answered (λ k. (later ≤ k) × IsSome (open_hold_at after k)) e.what joins.ends)
          ∙ ap (λ o. of_named before f (since first o)) (sym (ap released same ∙ released-numbered number e.what))
        where
          of : (o : Option ℕ) → IfSome o (λ k. (later ≤ k) × IsSome (open_hold_at after k)) → of_named after f (since later o) ≡ of_named before f (since first (option_map number o))
          of None h = refl
          of (Some k) h =
              ap (λ b. of_named after f (cond b (Some k) None)) (le-leb later k h.0)
              ∙ ap (λ o. unwrap_or (option_map f o) 0) (hold_same k h.0 h.1)
              ∙ sym (ap (λ b. of_named before f (cond b (Some (number k)) None)) (le-leb first (number k) (since_first k h.0)))

      opened_same : (f : Hold → ℕ) → cond (nat_le later (length after)) (of_hold f e.what) 0 ≡ cond (nat_le first (length before)) (of_hold f d.what) 0
      opened_same f =
          ap (λ b. cond b (of_hold f e.what) 0) (le-leb later (length after) alike.begun)
          ∙ ap (λ o. unwrap_or (option_map f o) 0) (sym holds_is)
          ∙ sym (ap (λ b. cond b (of_hold f d.what) 0) (le-leb first (length before) first_reached))

      totals : (new old new' old' r r' o o' : ℕ) → new + r ≡ old + o → new' + r' ≡ old' + o' → old ≡ old' → r ≡ r' → o ≡ o' → new ≡ new'
      totals new old new' old' r r' o o' one two was away more = omega (arith, one, two, was, away, more)

      totals_in_on : (x : ℕ) → total_in assets later (after ++ e ∷ []) x ≡ total_in assets first (before ++ d ∷ []) x
      totals_in_on x =
          totals _ _ _ _ _ _ _ _ (total_in-push assets after e x later alike.answers_after answers_e) (total_in-push assets before d x first alike.answers_before answers_d)
          (alike.totals_in x) (released_same (amount_in assets x)) (opened_same (amount_in assets x))

      totals_out_on : (x : ℕ) → total_out assets later (after ++ e ∷ []) x ≡ total_out assets first (before ++ d ∷ []) x
      totals_out_on x =
          totals _ _ _ _ _ _ _ _ (total_out-push assets after e x later alike.answers_after answers_e) (total_out-push assets before d x first alike.answers_before answers_d)
          (alike.totals_out x) (released_same (amount_out assets x)) (opened_same (amount_out assets x))

      -- what is open
      picked : {X : Type 0} (b b' : Bool) (h h' : Option X) (c c' : Bool) (o o' : Option X) → b ≡ b' → h ≡ h' → c ≡ c' → o ≡ o' → cond b h (cond c None o) ≡ cond b' h' (cond c' None o')
      picked b b' h h' c c' o o' one two three four = rw (one, two, three, four) refl

      holds_on : (k : ℕ) → later ≤ k → open_hold_at (after ++ e ∷ []) k ≡ open_hold_at (before ++ d ∷ []) (number k)
      holds_on k high =
          open_hold_at-push after e k alike.answers_after answers_e
          ∙ picked _ _ _ _ _ _ _ _ (sym (same_last k (is.named k high))) (sym holds_is)
          (sym (ap (is_number (number k)) answered_is ∙ same_named k (answered e.what) (is.named k high) named_answered)) (alike.holds k high)
          ∙ sym (open_hold_at-push before d (number k) alike.answers_before answers_d)

      asks_on : (k : ℕ) → IsNamed k → open_ask_at (after ++ e ∷ []) k ≡ open_ask_at (before ++ d ∷ []) (number k)
      asks_on k named =
          open_ask_at-push after e k alike.closes_after closes_e
          ∙ picked _ _ _ _ _ _ _ _ (sym (same_last k named)) (sym asks_is)
          (sym (ap (is_number (number k)) closed_is ∙ same_named k (closed e.what) named named_closed)) (alike.asks k named)
          ∙ sym (open_ask_at-push before d (number k) alike.closes_before closes_d)

      none_or_none : {X : Type 0} (b : Bool) → ◌≡◌ {A = Option X} (cond b None None) None
      none_or_none true = refl
      none_or_none false = refl

      never : {X : Type 0} (b : Bool) (h : Option X) (c : Bool) (o : Option X) → b ≡ false → o ≡ None → cond b h (cond c None o) ≡ None
      never b h c o out none = ap₂ (λ t x. cond t h (cond c None x)) out none ∙ none_or_none c

      no_holds_after_on : (k : ℕ) → k < later → open_hold_at (after ++ e ∷ []) k ≡ None
      no_holds_after_on k low =
          open_hold_at-push after e k alike.answers_after answers_e
          ∙ never (k == length after) (as_hold e.what) (is_number k (answered e.what)) (open_hold_at after k) (ne_eqb k (length after) (λ at. omega (arith, at, low, alike.begun))) (alike.no_holds_after k low)

      no_holds_before_on : (k : ℕ) → k < first → open_hold_at (before ++ d ∷ []) k ≡ None
      no_holds_before_on k low =
          open_hold_at-push before d k alike.answers_before answers_d
          ∙ never (k == length before) (as_hold d.what) (is_number k (answered d.what)) (open_hold_at before k) (ne_eqb k (length before) (λ at. omega (arith, at, low, first_reached))) (alike.no_holds_before k low)

      -- what names a number, by the numbers of both
      named_on : (o p : Option ℕ) (s t : Bool) → option_map number o ≡ p → s ≡ t → option_map number (option_or o (cond s (Some (length after)) None)) ≡ option_or p (cond t (Some (length before)) None)
      named_on o p s t one two = of o s ∙ ap₂ (λ x b. option_or x (cond b (Some (length before)) None)) one two
        where
          of : (o : Option ℕ) (b : Bool) → option_map number (option_or o (cond b (Some (length after)) None)) ≡ option_or (option_map number o) (cond b (Some (length before)) None)
          of (Some k) b = refl
          of None true = ap Some last_number
          of None false = refl

      answers_on : (k : ℕ) → later ≤ k → option_map number (answer_of (after ++ e ∷ []) k) ≡ answer_of (before ++ d ∷ []) (number k)
      answers_on k high =
          ap (option_map number) (answer_of-push after e k)
          ∙ named_on (answer_of after k) (answer_of before (number k)) (is_number k (answered e.what)) (is_number (number k) (answered d.what)) (alike.answers k high)
          (sym (ap (is_number (number k)) answered_is ∙ same_named k (answered e.what) (is.named k high) named_answered))
          ∙ sym (answer_of-push before d (number k))

      closings_on : (k : ℕ) → IsNamed k → option_map number (closing_of (after ++ e ∷ []) k) ≡ closing_of (before ++ d ∷ []) (number k)
      closings_on k named =
          ap (option_map number) (closing_of-push after e k)
          ∙ named_on (closing_of after k) (closing_of before (number k)) (is_number k (closed e.what)) (is_number (number k) (closed d.what)) (alike.closings k named)
          (sym (ap (is_number (number k)) closed_is ∙ same_named k (closed e.what) named named_closed))
          ∙ sym (closing_of-push before d (number k))

      not_ended : {X : Type 0} (c : Bool) (o : Option X) (x : X) → cond c None o ≡ Some x → o ≡ Some x
      not_ended true o x h = absurd cc
      not_ended false o x h = h

      found_before_on : (m : ℕ) (a : Ask) → open_ask_at (before ++ d ∷ []) m ≡ Some a → a.peer < count → (k : ℕ) × IsNamed k × (number k ≡ m)
      found_before_on m a there known = of (m == length before) refl (sym (open_ask_at-push before d m alike.closes_before closes_d) ∙ there)
        where
          of : (b : Bool) → (m == length before) ≡ b → cond b (as_ask d.what) (cond (is_number m (closed d.what)) None (open_ask_at before m)) ≡ Some a → (k : ℕ) × IsNamed k × (number k ≡ m)
          of true at h = (length after, is.named (length after) alike.begun, last_number ∙ sym (eqb-true m (length before) at))
          of false at h = alike.found_before m a (not_ended (is_number m (closed d.what)) (open_ask_at before m) a h) known

      found_after_on : (k : ℕ) (a : Ask) → open_ask_at (after ++ e ∷ []) k ≡ Some a → IsNamed k
      found_after_on k a there = of (k == length after) refl (sym (open_ask_at-push after e k alike.closes_after closes_e) ∙ there)
        where
          of : (b : Bool) → (k == length after) ≡ b → cond b (as_ask e.what) (cond (is_number k (closed e.what)) None (open_ask_at after k)) ≡ Some a → IsNamed k
          of true at h = subst IsNamed (sym (eqb-true k (length after) at)) (is.named (length after) alike.begun)
          of false at h = alike.found_after k a (not_ended (is_number k (closed e.what)) (open_ask_at after k) a h)

      closed_same : (f : Ask → ℕ) → of_named_ask after f (closed e.what) ≡ of_named_ask before f (closed d.what)
      closed_same f = of (closed e.what) joins.closes ∙ ap (of_named_ask before f) (sym closed_is)
        where
          of : (o : Option ℕ) → IfSome o (λ k. IsNamed k × IsSome (open_ask_at after k)) → of_named_ask after f o ≡ of_named_ask before f (option_map number o)
          of None h = refl
          of (Some k) h = ap (λ o. unwrap_or (option_map f o) 0) (ask_same k h.0 h.1)

      open_counts_on : (q : ℕ) → q < count → open_asks (after ++ e ∷ []) q ≡ open_asks (before ++ d ∷ []) q
      open_counts_on q known =
          totals _ _ _ _ _ _ _ _ (open_asks-push after e q alike.closes_after closes_e) (open_asks-push before d q alike.closes_before closes_d)
          (alike.open_counts q known) (closed_same (paid_to q)) (ap (λ o. unwrap_or (option_map (paid_to q) o) 0) (sym asks_is))

      -- credits
      credit_push : (j : Entries) (f : Entry) (q : ℕ) (key : List ℕ) → kept_credit (j ++ f ∷ []) q key ≡ option_or (kept_credit j q key) (option_or (credit_under q key (as_credit f.what)) None)
      credit_push j f q key =
          kept_credit_is (j ++ f ∷ []) q key ∙ first_some-append (λ (x : Entry). credit_under q key (as_credit x.what)) j (f ∷ [])
          ∙ ap (λ o. option_or o (option_or (credit_under q key (as_credit f.what)) None)) (sym (kept_credit_is j q key))

      credits_on : (q : ℕ) (key : List ℕ) → q < count → kept_credit (after ++ e ∷ []) q key ≡ kept_credit (before ++ d ∷ []) q key
      credits_on q key known =
          credit_push after e q key
          ∙ ap₂ (λ o c. option_or o (option_or (credit_under q key c) None)) (alike.credits q key known) (sym (ap as_credit same ∙ as_credit-numbered number e.what))
          ∙ sym (credit_push before d q key)

      kept_push : (j : Entries) (f : Entry) (q : ℕ) (key : List ℕ) → kept_at (j ++ f ∷ []) q key ≡ option_or (kept_at j q key) (cond (has_key q key f.what) (Some (length j)) None)
      kept_push j f q key =
          first_from-append (λ _ (x : Entry). has_key q key x.what) 0 j (f ∷ [])
          ∙ ap (λ n. option_or (kept_at j q key) (cond (has_key q key f.what) (Some n) None)) (zero-add (length j))

      kept_numbers_on : (q : ℕ) (key : List ℕ) → q < count → option_map number (kept_at (after ++ e ∷ []) q key) ≡ kept_at (before ++ d ∷ []) q key
      kept_numbers_on q key known =
          ap (option_map number) (kept_push after e q key)
          ∙ named_on (kept_at after q key) (kept_at before q key) (has_key q key e.what) (has_key q key d.what) (alike.kept_numbers q key known)
          (ap (λ o. unwrap_or (option_map (λ (c : Credited). (c.peer == q) && bytes_eq c.key key) o) false) (sym (ap as_credit same ∙ as_credit-numbered number e.what)))
          ∙ sym (kept_push before d q key)

      last_is : (j : Entries) (f : Entry) → last_moment (j ++ f ∷ []) ≡ f.moment
      last_is j f = fold-append (λ _ (x : Entry). x.moment) (pos 0) j (f ∷ [])

      -- both are alike with it
      pub alike_on : AreAlike (before ++ d ∷ []) (after ++ e ∷ [])
      alike_on = record {
        answers_before = Each-push AnswersOnce before d alike.answers_before answers_d;
        answers_after = Each-push AnswersOnce after e alike.answers_after answers_e;
        closes_before = Each-push ClosesOnce before d alike.closes_before closes_d;
        closes_after = Each-push ClosesOnce after e alike.closes_after closes_e;
        lengths = omega (arith, alike.lengths, length-append before (d ∷ []), length-append after (e ∷ []));
        begun = omega (arith, alike.begun, length-append after (e ∷ []));
        balances = balances_on;
        totals_in = totals_in_on;
        totals_out = totals_out_on;
        holds = holds_on;
        no_holds_after = no_holds_after_on;
        no_holds_before = no_holds_before_on;
        answers = answers_on;
        asks = asks_on;
        closings = closings_on;
        found_before = found_before_on;
        found_after = found_after_on;
        open_counts = open_counts_on;
        credits = credits_on;
        kept_numbers = kept_numbers_on;
        moments = λ m from. ap (int_max m) (last_is after e ∙ moment ∙ sym (last_is before d));
      }
