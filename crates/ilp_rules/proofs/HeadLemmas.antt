-- What a lawful journal says of its head.
use Rattle.std.proofs.Common.{◌≡◌, ◌≢◌, ℕ, ◌-◌, ℤ, pos, negsuc, ◌+ℤ◌, ◌-ℤ◌, Bool, true, false, cond, [], ◌∷◌, ◌++◌, length, Option, Some, None, refl, sym, ap, ◌∙◌, subst, arith, length-append, zero-add}
use Rattle.std.specs.Prelude.{◌==◌, slice_get, IsTrue, IsNone, MatchOption}
use Rattle.std.specs.Option.{option_or}
use Rattle.std.proofs.lemmas.Bool.{eqb-true, eqb-false, eq-eqb, ne_eqb}
use Rattle.std.proofs.lemmas.Int.{ints}
use Rattle.std.proofs.lemmas.List.Elements.{All-push}
use Rattle.std.proofs.lemmas.Option.{slice_get_within, get_or_from_slice_get}
use Rattle.ilp_accounts.specs.Configuration.{Configuration}
use Rattle.ilp_journal.specs.declared.entry.Entry.{Entry}
use Rattle.ilp_journal.specs.declared.entry.What.{What}
use Rattle.ilp_journal.specs.declared.entry.What.TheVariants as what
use Rattle.ilp_order.specs.Places.{Each}
use Rattle.ilp_journal.specs.Journal.{Entries, AnswersOnce, ClosesOnce, is_number}
use Rattle.ilp_journal.specs.Balance.{above, below, balance, rise, fall}
use Rattle.ilp_journal.specs.BroughtForward.{is_brought_forward, opened_peer, opening_at}
use Rattle.ilp_order.proofs.Sums.{by_push, Each-parts, Each-each, first_from-append, slice_get-push}
use Rattle.ilp_journal.proofs.Growth.{balance-push}
use Rattle.ilp_rules.specs.Book.{PlainBook}
use Rattle.ilp_rules.specs.Heads.{IsHead, StandsInHead}
use Rattle.ilp_rules.specs.Lawful.{KeepsRule, KeepsRuleOf}
use Rattle.ilp_rules.proofs.Rules.{rule_answers, rule_closes}

-- what is brought forward and keeps its rule stands in the head
pub in_head : (C : Configuration) (period base : ℕ) (before : Entries) (m : ℤ) (w : What) → is_brought_forward w ≡ true → KeepsRule C period base before m w → StandsInHead C period base before w
in_head C period base before m (what.Hold h) is rule = absurd cc
in_head C period base before m (what.Fulfilled hold preimage) is rule = absurd cc
in_head C period base before m (what.Released hold cause) is rule = absurd cc
in_head C period base before m (what.Credited c) is rule = absurd cc
in_head C period base before m (what.Asked a) is rule = absurd cc
in_head C period base before m (what.Confirmed ask) is rule = absurd cc
in_head C period base before m (what.Undone ask) is rule = absurd cc
in_head C period base before m (what.Opened peer balance) is rule = rule
in_head C period base before m (what.Known c) is rule = rule
in_head C period base before m (what.Pending peer amount key) is rule = rule

-- nothing is owed before any entry
nothing_owed : (p : ℕ) → balance [] p ≡ pos 0
unfolding balance
nothing_owed p = refl

-- in a head a balance is 0 just where it was not opened
abbrev pub IsToldBy : Entries → ℕ → Option ℕ → Type 0
IsToldBy j p o = MatchOption o (balance j p ≡ pos 0) (λ _. balance j p ≢ pos 0)

module _ (book : PlainBook) where
  -- the last entry and its number
  last_is : (j : Entries) (x e : Entry) → slice_get (j ++ x ∷ []) (length (j ++ x ∷ []) - 1) ≡ Some e → x ≡ e
  last_is j x e at =
      let number : length (j ++ x ∷ []) - 1 ≡ length j = omega (arith, length-append j (x ∷ [])) in
      let found : slice_get (j ++ x ∷ []) (length (j ++ x ∷ []) - 1) ≡ Some x =
      slice_get-push j x (length (j ++ x ∷ []) - 1) ∙ ap (λ b. cond b (Some x) (slice_get j (length (j ++ x ∷ []) - 1))) (eq-eqb _ _ number) in
      cc

  -- where the last entry was brought forward, all were
  pub head_by_last : (j : Entries) (e : Entry) → Each (KeepsRuleOf book) j → slice_get j (length j - 1) ≡ Some e → is_brought_forward e.what ≡ true → IsHead j
  head_by_last j e =
      by_push (λ l. Each (KeepsRuleOf book) l → slice_get l (length l - 1) ≡ Some e → is_brought_forward e.what ≡ true → IsHead l) (λ _ at. absurd cc)
      (λ l x _ rules at is.
      let same : x ≡ e = last_is l x e at in
      let brought : is_brought_forward x.what ≡ true = ap (λ (d : Entry). is_brought_forward d.what) same ∙ is in
      let rule : KeepsRuleOf book l x = (Each-parts (KeepsRuleOf book) l x rules).1 in
      All-push (λ (d : Entry). IsTrue (is_brought_forward d.what)) l x (in_head book.config book.period book.base l x.moment x.what brought rule).front brought) j

  -- where all were, the last was
  pub last_in_head : (j : Entries) (e : Entry) → IsHead j → slice_get j (length j - 1) ≡ Some e → is_brought_forward e.what ≡ true
  last_in_head j e head at =
      let n = length j - 1 in
      subst (λ (d : Entry). IsTrue (is_brought_forward d.what)) (get_or_from_slice_get j n e e at) (head n e (slice_get_within j n e at))

  pub told_by_opening : (p : ℕ) (j : Entries) → Each (KeepsRuleOf book) j → IsHead j → IsToldBy j p (opening_at j p)
  told_by_opening p = by_push (λ l. Each (KeepsRuleOf book) l → IsHead l → IsToldBy l p (opening_at l p)) first more
    where
      first : Each (KeepsRuleOf book) [] → IsHead [] → IsToldBy [] p None
      first rules head = nothing_owed p

      more : (l : Entries) (e : Entry) → (Each (KeepsRuleOf book) l → IsHead l → IsToldBy l p (opening_at l p)) → Each (KeepsRuleOf book) (l ++ e ∷ []) → IsHead (l ++ e ∷ [])
          → IsToldBy (l ++ e ∷ []) p (opening_at (l ++ e ∷ []) p)
      more l e before rules head =
          let parts : Each (KeepsRuleOf book) l × KeepsRuleOf book l e = Each-parts (KeepsRuleOf book) l e rules in
          let is : is_brought_forward e.what ≡ true = last_in_head (l ++ e ∷ []) e head (at_last l e) in
          let stands = in_head book.config book.period book.base l e.moment e.what is parts.1 in
          let moved = balance-push l e p (answers l parts.0) (closes l parts.0) (rule_answers book.config book.period book.base l e parts.1) (rule_closes book.config book.period book.base l e parts.1) in
          let opened : opening_at (l ++ e ∷ []) p ≡ option_or (opening_at l p) (cond (is_number p (opened_peer e.what)) (Some (length l)) None) =
          first_from-append (λ _ (d : Entry). is_number p (opened_peer d.what)) 0 l (e ∷ [])
          ∙ ap (λ n. option_or (opening_at l p) (cond (is_number p (opened_peer e.what)) (Some n) None)) (zero-add (length l)) in
          subst (IsToldBy (l ++ e ∷ []) p) (sym opened) (of e.what is stands moved (opening_at l p) refl (before parts.0 stands.front))
        where
          at_last : (l : Entries) (e : Entry) → slice_get (l ++ e ∷ []) (length (l ++ e ∷ []) - 1) ≡ Some e
          at_last l e =
              let number : length (l ++ e ∷ []) - 1 ≡ length l = omega (arith, length-append l (e ∷ [])) in
              slice_get-push l e (length (l ++ e ∷ []) - 1) ∙ ap (λ b. cond b (Some e) (slice_get l (length (l ++ e ∷ []) - 1))) (eq-eqb _ _ number)

          answers : (l : Entries) → Each (KeepsRuleOf book) l → Each AnswersOnce l
          answers l rules = Each-each (KeepsRuleOf book) AnswersOnce l (λ k d rule. rule_answers book.config book.period book.base k d rule) rules

          closes : (l : Entries) → Each (KeepsRuleOf book) l → Each ClosesOnce l
          closes l rules = Each-each (KeepsRuleOf book) ClosesOnce l (λ k d rule. rule_closes book.config book.period book.base k d rule) rules

          -- an entry that moves the balance by nothing, and opens none
          still : (new old : ℤ) (o : Option ℕ) → new ≡ old +ℤ pos 0 -ℤ pos 0 → MatchOption o (old ≡ pos 0) (λ _. old ≢ pos 0) → MatchOption (option_or o None) (new ≡ pos 0) (λ _. new ≢ pos 0)
          still new old None moved was = omega (arith, ints, moved, was)
          still new old (Some n) moved was = λ zero. was (omega (arith, ints, moved, zero))

          from_zero : (new old b : ℤ) → new ≡ old +ℤ pos (above b) -ℤ pos (below b) → old ≡ pos 0 → b ≢ pos 0 → new ≢ pos 0
          from_zero new old (pos n) moved was some zero = some (omega (arith, ints, moved, was, zero))
          from_zero new old (negsuc n) moved was some zero = omega (arith, ints, moved, was, zero)

          opens : (q : ℕ) (b : ℤ) (t : Bool) → (q == p) ≡ t → StandsInHead book.config book.period book.base l (what.Opened q b)
              → balance (l ++ e ∷ []) p ≡ balance l p +ℤ pos (cond t (above b) 0) -ℤ pos (cond t (below b) 0)
              → (o : Option ℕ) → opening_at l p ≡ o → IsToldBy l p o → IsToldBy (l ++ e ∷ []) p (option_or o (cond (p == q) (Some (length l)) None))
          opens q b true is stands moved None was told = rw (eq-eqb p q (sym (eqb-true q p is))) (from_zero _ _ b moved told stands.rule.1)
          opens q b true is stands moved (Some n) was told = absurd (free (opening_at l q) stands.rule.2 (ap (opening_at l) (eqb-true q p is) ∙ was))
            where
              free : (o : Option ℕ) → IsNone o → o ≡ Some n → ⊥
              free None none some = cc
              free (Some k) none some = cc
          opens q b false is stands moved o was told = rw (other q is) (still _ _ o moved told)
            where
              other : (q : ℕ) → (q == p) ≡ false → (p == q) ≡ false
              other q is = ne_eqb p q (λ same. eqb-false q p is (sym same))

          of : (w : What) → is_brought_forward w ≡ true → StandsInHead book.config book.period book.base l w
              → balance (l ++ e ∷ []) p ≡ balance l p +ℤ pos (rise l p w) -ℤ pos (fall p w)
              → (o : Option ℕ) → opening_at l p ≡ o → IsToldBy l p o → IsToldBy (l ++ e ∷ []) p (option_or o (cond (is_number p (opened_peer w)) (Some (length l)) None))
          of (what.Hold h) is stands moved o was told = absurd cc
          of (what.Fulfilled hold preimage) is stands moved o was told = absurd cc
          of (what.Released hold cause) is stands moved o was told = absurd cc
          of (what.Credited c) is stands moved o was told = absurd cc
          of (what.Asked a) is stands moved o was told = absurd cc
          of (what.Confirmed ask) is stands moved o was told = absurd cc
          of (what.Undone ask) is stands moved o was told = absurd cc
          of (what.Opened q b) is stands moved o was told = opens q b (q == p) refl stands moved o was told
          of (what.Known c) is stands moved o was told = still _ _ o moved told
          of (what.Pending peer amount key) is stands moved o was told = still _ _ o moved told
