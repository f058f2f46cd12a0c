-- No two settlements have one key.
use Rattle.std.proofs.Common.{◌≡◌, ℕ, ◌+◌, ◌^◌, ◌<◌, ◌≤◌, ℤ, Bool, true, false, cond, List, [], ◌∷◌, ◌++◌, length, slice_index, slice_index_or, Option, Some, None, refl, sym, ap, ◌∙◌, subst, arith, append_assoc, length-append}
use Rattle.std.specs.Prelude.{codes, ◌==◌, slice_get, option_and_then, option_map, unwrap_or, IsNone, IsTrue}
use Rattle.std.specs.List.{slice_split, list_all}
use Rattle.std.specs.Fmt.{decimal}
use Rattle.std.specs.Str.{bytes_eq}
use Rattle.std.proofs.lemmas.Bool.{eqb-true}
use Rattle.std.proofs.lemmas.Bool.Decides.{nat_tests}
use Rattle.std.proofs.lemmas.Fmt.{decimal_injective, length-decimal-le}
use Rattle.std.proofs.lemmas.List.{append_cancel_left}
use Rattle.std.proofs.lemmas.List.Splits.{slice_split_at}
use Rattle.std.proofs.lemmas.Option.{slice_get_within}
use Rattle.std.proofs.lemmas.Slice.Eq.{bytes_eq-Decides}
use Rattle.ilp_accounts.specs.Configuration.{Configuration}
use Rattle.ilp_accounts.specs.Valid.{IsValid}
use Rattle.ilp_journal.specs.declared.entry.Ask.{Ask}
use Rattle.ilp_journal.specs.declared.entry.Entry.{Entry}
use Rattle.ilp_journal.specs.declared.entry.What.{What}
use Rattle.ilp_journal.specs.declared.entry.What.TheVariants as what
use Rattle.ilp_order.specs.Places.{Each}
use Rattle.ilp_journal.specs.Journal.{Entries, as_ask, ask_at}
use Rattle.ilp_journal.specs.Keys.{IsKey}
use Rattle.ilp_journal.specs.BroughtForward.{earlier_key, earlier_key_at}
use Rattle.ilp_order.proofs.Sums.{by_push, Each-parts}
use Rattle.ilp_order.proofs.RefusalLemmas.{some_same}
use Rattle.ilp_journal.proofs.Naming.{stands_at-push}
use Rattle.ilp_rules.specs.Book.{PlainBook}
use Rattle.ilp_rules.specs.Heads.{HasOwnKey, IsOfPeriodFrom, is_key_octet, key_front, has_earlier_key, pending_at, period_mark, settlement_key_of}
use Rattle.ilp_rules.specs.Lawful.{IsLawful, KeepsRule, KeepsRuleOf}
use Rattle.ilp_rules.specs.SettlementKeys.{settlement_key_at}
use Rattle.ilp_rules.proofs.KeptOnce.{none_passes}
use Rattle.ilp_rules.proofs.KeyFronts.{no_hyphen}
use Rattle.ilp_rules.proofs.KeyOctets.{mark_visible, run_visible, digits_visible, both_visible}
use Rattle.ilp_rules.proofs.LawfulGrowth.{limits_now}

-- ---- keys of two periods

module _ (p q : ℕ) (fits_p : p < 2 ^ 32) (fits_q : q < 2 ^ 32) where
  -- a hyphen parts the number of a period from what follows
  numbers_apart : (x y : List ℕ) → (decimal p ++ codes "-") ++ x ≡ (decimal q ++ codes "-") ++ y → (p ≡ q) × (x ≡ y)
  numbers_apart x y same =
      let cut_p = ap (slice_split (λ octet. octet == 45)) (append_assoc (decimal p) (codes "-") x)
      ∙ slice_split_at (λ octet. octet == 45) (decimal p) 45 x (no_hyphen p fits_p) refl in
      let cut_q = ap (slice_split (λ octet. octet == 45)) (append_assoc (decimal q) (codes "-") y)
      ∙ slice_split_at (λ octet. octet == 45) (decimal q) 45 y (no_hyphen q fits_q) refl in
      let both = sym cut_p ∙ ap (slice_split (λ octet. octet == 45)) same ∙ cut_q in
      let fronts : decimal p ≡ decimal q = ap (λ (parts : List (List ℕ)). slice_index_or parts 0 []) both in (
        decimal_injective p q (omega (arith, fits_p)) (omega (arith, fits_q)) fronts,
        append_cancel_left (decimal q ++ codes "-") x y (ap (λ (front : List ℕ). (front ++ codes "-") ++ x) (sym fronts) ∙ same),
      )

  -- nothing begins with the marks of two periods
  pub marks_apart : (x y : List ℕ) → period_mark p ++ x ≡ period_mark q ++ y → (p ≡ q) × (x ≡ y)
  marks_apart x y same = by (p == 0) (q == 0) refl refl same
    where
      by : (a b : Bool) → (p == 0) ≡ a → (q == 0) ≡ b
          → cond a (codes "-") (codes "." ++ (decimal p ++ codes "-")) ++ x ≡ cond b (codes "-") (codes "." ++ (decimal q ++ codes "-")) ++ y
          → (p ≡ q) × (x ≡ y)
      by true true is_p is_q same = (eqb-true p 0 is_p ∙ sym (eqb-true q 0 is_q), append_cancel_left (codes "-") x y same)
      by true false is_p is_q same = absurd (omega (arith, ap (λ (octets : List ℕ). slice_index octets 0) same))
      by false true is_p is_q same = absurd (omega (arith, ap (λ (octets : List ℕ). slice_index octets 0) same))
      by false false is_p is_q same =
          numbers_apart x y (append_cancel_left (codes ".") ((decimal p ++ codes "-") ++ x) ((decimal q ++ codes "-") ++ y) same)

  -- nor does a key of one run
  pub fronts_apart : (C D : Configuration) (x y : List ℕ) → C.settings.run ≡ D.settings.run → key_front C p ++ x ≡ key_front D q ++ y → (p ≡ q) × (x ≡ y)
  fronts_apart C D x y run same =
      marks_apart x y (append_cancel_left D.settings.run (period_mark p ++ x) (period_mark q ++ y)
      (ap (λ (r : List ℕ). r ++ (period_mark p ++ x)) (sym run) ∙ sym (append_assoc C.settings.run (period_mark p) x)
      ∙ same ∙ append_assoc D.settings.run (period_mark q) y))

  pub keys_apart : (m n : ℕ) → m < 2 ^ 32 → n < 2 ^ 32 → (C D : Configuration) → C.settings.run ≡ D.settings.run → settlement_key_of C p m ≡ settlement_key_of D q n → (p ≡ q) × (m ≡ n)
  keys_apart m n fits_m fits_n C D run same =
      let apart = fronts_apart C D (decimal m) (decimal n) run same in
      (apart.0, decimal_injective m n (omega (arith, fits_m)) (omega (arith, fits_n)) apart.1)

-- ---- keys in a book

-- a settlement that is brought forward has its own key
rule_keys : (C : Configuration) (period base : ℕ) (j : Entries) (m : ℤ) (w : What) (key : List ℕ) → earlier_key w ≡ Some key → KeepsRule C period base j m w → HasOwnKey C period j key
rule_keys C period base j m (what.Hold h) key is rule = absurd cc
rule_keys C period base j m (what.Fulfilled hold preimage) key is rule = absurd cc
rule_keys C period base j m (what.Released hold cause) key is rule = absurd cc
rule_keys C period base j m (what.Credited c) key is rule = absurd cc
rule_keys C period base j m (what.Asked a) key is rule = absurd cc
rule_keys C period base j m (what.Confirmed ask) key is rule = absurd cc
rule_keys C period base j m (what.Undone ask) key is rule = absurd cc
rule_keys C period base j m (what.Opened peer balance) key is rule = absurd cc
rule_keys C period base j m (what.Known c) key is rule = absurd cc
rule_keys C period base j m (what.Pending peer amount own) key is rule = subst (HasOwnKey C period j) (some_same own key is) rule.keys

-- an earlier one under the key of a new one would have been found
not_both : (j : Entries) (key : List ℕ) (m : ℕ) → IsNone (pending_at j key) → earlier_key_at j m ≡ Some key → ⊥
not_both j key m single earlier = at (slice_get j m) refl earlier
  where
    none : (o : Option ℕ) → IsNone o → o ≡ None
    none None h = refl
    none (Some k) h = cc

    at : (o : Option Entry) → slice_get j m ≡ o → option_and_then (λ (e : Entry). earlier_key e.what) o ≡ Some key → ⊥
    at None stands e = cc
    at (Some x) stands e =
        let fails : has_earlier_key key x.what ≡ false = none_passes (λ (y : Entry). has_earlier_key key y.what) 0 j (none (pending_at j key) single) m x stands in
        let passes : has_earlier_key key x.what ≡ true =
        ap (λ (o : Option (List ℕ)). unwrap_or (option_map (λ (other : List ℕ). bytes_eq other key) o) false) e ∙ (bytes_eq-Decides key key).1 refl in
        cc

-- two that are brought forward under one key are one, and the key is a key that can go out, and none of this period or a later one
record AreOwn (C : Configuration) (period : ℕ) (j : Entries) : Type 0 where
  named : (k : ℕ) (key : List ℕ) → earlier_key_at j k ≡ Some key → IsKey key
  visible : (k : ℕ) (key : List ℕ) → earlier_key_at j k ≡ Some key → IsTrue (list_all is_key_octet key)
  single : (k m : ℕ) (key : List ℕ) → earlier_key_at j k ≡ Some key → earlier_key_at j m ≡ Some key → k ≡ m
  earlier : (k : ℕ) (key : List ℕ) → earlier_key_at j k ≡ Some key → ¬ (IsOfPeriodFrom C period key)

module _ (book : PlainBook) where
  abbrev Own : Entries → Type 0
  Own j = AreOwn book.config book.period j

  are_own : (j : Entries) → Each (KeepsRuleOf book) j → Own j
  are_own = by_push (λ j. Each (KeepsRuleOf book) j → Own j) (λ _. record { named = λ k key at. absurd cc; visible = λ k key at. absurd cc; single = λ k m key at. absurd cc; earlier = λ k key at. absurd cc }) more
    where
      more : (j : Entries) (e : Entry) → (Each (KeepsRuleOf book) j → Own j) → Each (KeepsRuleOf book) (j ++ e ∷ []) → Own (j ++ e ∷ [])
      more j e before each =
          let parts : Each (KeepsRuleOf book) j × KeepsRuleOf book j e = Each-parts (KeepsRuleOf book) j e each in
          let own = λ (key : List ℕ) (is : earlier_key e.what ≡ Some key). rule_keys book.config book.period book.base j e.moment e.what key is parts.1 in
          record {
            named = λ k key at. is_key k key (k == length j) (sym (stands_at-push earlier_key j e k) ∙ at) (before parts.0) own;
            visible = λ k key at. is_visible k key (k == length j) (sym (stands_at-push earlier_key j e k) ∙ at) (before parts.0) own;
            single = λ k m key at_k at_m.
                one k m key (k == length j) (m == length j) refl refl (sym (stands_at-push earlier_key j e k) ∙ at_k) (sym (stands_at-push earlier_key j e m) ∙ at_m) (before parts.0) own;
            earlier = λ k key at. none k key (k == length j) (sym (stands_at-push earlier_key j e k) ∙ at) (before parts.0) own;
          }
        where
          one : (k m : ℕ) (key : List ℕ) (a b : Bool) → (k == length j) ≡ a → (m == length j) ≡ b → cond a (earlier_key e.what) (earlier_key_at j k) ≡ Some key
              → cond b (earlier_key e.what) (earlier_key_at j m) ≡ Some key → Own j → ((key : List ℕ) → earlier_key e.what ≡ Some key → HasOwnKey book.config book.period j key) → k ≡ m
          one k m key true true last also at_k at_m are own = eqb-true k (length j) last ∙ sym (eqb-true m (length j) also)
          one k m key true false last other at_k at_m are own = absurd (not_both j key m (own key at_k).single at_m)
          one k m key false true other last at_k at_m are own = absurd (not_both j key k (own key at_m).single at_k)
          one k m key false false other also at_k at_m are own = are.single k m key at_k at_m

          is_key : (k : ℕ) (key : List ℕ) (a : Bool) → cond a (earlier_key e.what) (earlier_key_at j k) ≡ Some key → Own j
              → ((key : List ℕ) → earlier_key e.what ≡ Some key → HasOwnKey book.config book.period j key) → IsKey key
          is_key k key true at are own = (own key at).named
          is_key k key false at are own = are.named k key at

          is_visible : (k : ℕ) (key : List ℕ) (a : Bool) → cond a (earlier_key e.what) (earlier_key_at j k) ≡ Some key → Own j
              → ((key : List ℕ) → earlier_key e.what ≡ Some key → HasOwnKey book.config book.period j key) → IsTrue (list_all is_key_octet key)
          is_visible k key true at are own = (own key at).visible
          is_visible k key false at are own = are.visible k key at

          none : (k : ℕ) (key : List ℕ) (a : Bool) → cond a (earlier_key e.what) (earlier_key_at j k) ≡ Some key → Own j
              → ((key : List ℕ) → earlier_key e.what ≡ Some key → HasOwnKey book.config book.period j key) → ¬ (IsOfPeriodFrom book.config book.period key)
          none k key true at are own = (own key at).earlier
          none k key false at are own = are.earlier k key at

-- the number of a settlement is one of 32 bits
number_fits : (book : PlainBook) (n : ℕ) (a : Ask) → IsValid book.config → IsLawful book → ask_at book.entries n ≡ Some a → n < 2 ^ 32
number_fits book n a valid lawful is = at (slice_get book.entries n) refl is
  where
    at : (o : Option Entry) → slice_get book.entries n ≡ o → option_and_then (λ (e : Entry). as_ask e.what) o ≡ Some a → n < 2 ^ 32
    at None stands is = absurd cc
    at (Some e) stands is = omega (arith, slice_get_within book.entries n e stands, (limits_now book lawful).room, valid.settings.journal.1)

-- no two settlements of a lawful book have one key
pub own_keys : (book : PlainBook) (k m : ℕ) (a b : Ask) → IsValid book.config → IsLawful book → ask_at book.entries k ≡ Some a → ask_at book.entries m ≡ Some b
    → settlement_key_at book.config book.period book.entries k ≡ settlement_key_at book.config book.period book.entries m → k ≡ m
own_keys book k m a b valid lawful is_k is_m same = of (earlier_key_at book.entries k) (earlier_key_at book.entries m) refl refl same
  where
    of_now : {key : List ℕ} (after : List ℕ) → key ≡ key_front book.config book.period ++ after → IsOfPeriodFrom book.config book.period key
    of_now after is = (book.period, omega arith, lawful.numbered, (after, is))

    of : (x y : Option (List ℕ)) → earlier_key_at book.entries k ≡ x → earlier_key_at book.entries m ≡ y
        → unwrap_or x (settlement_key_of book.config book.period k) ≡ unwrap_or y (settlement_key_of book.config book.period m) → k ≡ m
    of None None at_k at_m same =
        (keys_apart book.period book.period lawful.numbered lawful.numbered k m (number_fits book k a valid lawful is_k) (number_fits book m b valid lawful is_m) book.config book.config refl same).1
    of (Some x) None at_k at_m same = absurd ((are_own book book.entries lawful.rules).earlier k x at_k (of_now (decimal m) same))
    of None (Some y) at_k at_m same = absurd ((are_own book book.entries lawful.rules).earlier m y at_m (of_now (decimal k) (sym same)))
    of (Some x) (Some y) at_k at_m same = (are_own book book.entries lawful.rules).single k m y (at_k ∙ ap Some same) at_m

-- ---- keys that are brought forward

module _ (book : PlainBook) (n : ℕ) (a : Ask) (valid : IsValid book.config) (lawful : IsLawful book) (is : ask_at book.entries n ≡ Some a) where
  -- the key of a settlement is a key
  pub key_named : IsKey (settlement_key_at book.config book.period book.entries n)
  key_named = of (earlier_key_at book.entries n) refl
    where
      run_length : (1 ≤ length book.config.settings.run) × (length book.config.settings.run ≤ 32)
      run_length = let form = valid.settings.run in (grind (arith, nat_tests), grind (arith, nat_tests))

      few_digits : (k : ℕ) → k < 2 ^ 32 → length (decimal k) ≤ 10
      few_digits k fits = length-decimal-le 10 k (omega arith) (omega (arith, fits)) (omega (arith, fits))

      short_mark : (b : Bool) → length (cond b (codes "-") (codes "." ++ (decimal book.period ++ codes "-"))) ≤ 12
      short_mark true = omega arith
      short_mark false = omega (arith, length-append (codes ".") (decimal book.period ++ codes "-"), length-append (decimal book.period) (codes "-"), few_digits book.period lawful.numbered)

      of : (o : Option (List ℕ)) → earlier_key_at book.entries n ≡ o → IsKey (unwrap_or o (settlement_key_of book.config book.period n))
      of (Some key) at = (are_own book book.entries lawful.rules).named n key at
      of None at =
          let digits = few_digits n (number_fits book n a valid lawful is) in
          let whole = length-append (key_front book.config book.period) (decimal n) in
          let front = length-append book.config.settings.run (period_mark book.period) in
          (omega (arith, whole, front, run_length.0), omega (arith, whole, front, run_length.1, short_mark (book.period == 0), digits))

  -- which can go out
  pub key_visible : IsTrue (list_all is_key_octet (settlement_key_at book.config book.period book.entries n))
  key_visible = of (earlier_key_at book.entries n) refl
    where
      of : (o : Option (List ℕ)) → earlier_key_at book.entries n ≡ o → IsTrue (list_all is_key_octet (unwrap_or o (settlement_key_of book.config book.period n)))
      of (Some key) at = (are_own book book.entries lawful.rules).visible n key at
      of None at =
          both_visible (key_front book.config book.period) (decimal n)
          (both_visible book.config.settings.run (period_mark book.period) (run_visible book.config.settings.run valid.settings.run) (mark_visible book.period lawful.numbered))
          (digits_visible n (number_fits book n a valid lawful is))

  -- under which no later period of the run asks for one
  pub key_earlier : (next : Configuration) → next.settings.run ≡ book.config.settings.run → ¬ (IsOfPeriodFrom next (book.period + 1) (settlement_key_at book.config book.period book.entries n))
  key_earlier next run later = of (earlier_key_at book.entries n) refl later
    where
      of : (o : Option (List ℕ)) → earlier_key_at book.entries n ≡ o → IsOfPeriodFrom next (book.period + 1) (unwrap_or o (settlement_key_of book.config book.period n)) → ⊥
      of (Some key) at from =
          (are_own book book.entries lawful.rules).earlier n key at
          (from.0, omega (arith, from.1), from.2, (from.3.0, from.3.1 ∙ ap (λ (r : List ℕ). (r ++ period_mark from.0) ++ from.3.0) run))
      of None at from =
          let apart = fronts_apart book.period from.0 lawful.numbered from.2 book.config next (decimal n) from.3.0 (sym run) from.3.1 in
          omega (arith, from.1, apart.0)
