-- No two credits have one peer and one key.
use Rattle.std.proofs.Common.{◌≡◌, ℕ, zero, suc, ◌+◌, Bool, true, false, cond, List, [], ◌∷◌, ◌++◌, length, Option, Some, None, refl, sym, ap, ◌∙◌, subst}
use Rattle.std.specs.Prelude.{slice_get, option_and_then, option_map, unwrap_or, ◌==◌, ◌&&◌, IsNone}
use Rattle.std.specs.Str.{bytes_eq}
use Rattle.std.proofs.lemmas.Bool.{eqb-true, eq-eqb}
use Rattle.std.proofs.lemmas.Slice.Eq.{bytes_eq-Decides}
use Rattle.ilp_journal.specs.declared.entry.Entry.{Entry}
use Rattle.ilp_journal.specs.declared.entry.What.{What}
use Rattle.ilp_journal.specs.declared.entry.Credited.{Credited}
use Rattle.ilp_order.specs.Places.{first_from, Each}
use Rattle.ilp_journal.specs.Journal.{Entries}
use Rattle.ilp_order.proofs.Sums.{by_push, Each-parts}
use Rattle.ilp_journal.proofs.Naming.{stands_at-push}
use Rattle.ilp_rules.specs.Book.{PlainBook}
use Rattle.ilp_journal.specs.Credits.{as_credit, credit_at, has_key, kept_at}
use Rattle.ilp_rules.specs.Lawful.{IsLawful, KeepsRuleOf}
use Rattle.ilp_order.proofs.RefusalLemmas.{some_same}
use Rattle.ilp_rules.proofs.Rules.{rule_credits}

-- where no place passes no element does
pub none_passes : {X : Type 0} (test : X → Bool) (n : ℕ) (xs : List X) → first_from (λ _ x. test x) n xs ≡ None → (i : ℕ) (x : X) → slice_get xs i ≡ Some x → test x ≡ false
none_passes test n [] e i x at = absurd cc
none_passes test n (y ∷ ys) e zero x at = of_test (test y) refl e
  where
    of_test : (b : Bool) → test y ≡ b → cond b (Some n) (first_from (λ _ x. test x) (n + 1) ys) ≡ None → test x ≡ false
    of_test true t e = absurd cc
    of_test false t e = subst (λ z. test z ≡ false) (some_same y x at) t
none_passes test n (y ∷ ys) e (suc i) x at = none_passes test (n + 1) ys (rest (test y) e) i x at
  where
    rest : (b : Bool) → cond b (Some n) (first_from (λ _ x. test x) (n + 1) ys) ≡ None → first_from (λ _ x. test x) (n + 1) ys ≡ None
    rest true e = absurd cc
    rest false e = e

-- the credit under a number has its own key
own_key : (w : What) (c : Credited) (peer : ℕ) (key : List ℕ) → as_credit w ≡ Some c → c.peer ≡ peer → c.key ≡ key → has_key peer key w ≡ true
own_key w c peer key is same_peer same_key =
    ap (λ o. unwrap_or (option_map (λ (d : Credited). (d.peer == peer) && bytes_eq d.key key) o) false) is ∙ rw (same_peer, same_key, eq-eqb peer peer refl, (bytes_eq-Decides key key).1 refl) refl

-- an earlier credit under the key of a new one would have been kept
not_both : (j : Entries) (c d : Credited) (m : ℕ) → IsNone (kept_at j c.peer c.key) → credit_at j m ≡ Some d → d.peer ≡ c.peer → d.key ≡ c.key → ⊥
not_both j c d m fresh earlier same_peer same_key = at (slice_get j m) refl earlier
  where
    none : (o : Option ℕ) → IsNone o → o ≡ None
    none None h = refl
    none (Some k) h = cc

    at : (o : Option Entry) → slice_get j m ≡ o → option_and_then (λ (e : Entry). as_credit e.what) o ≡ Some d → ⊥
    at None stands e = cc
    at (Some x) stands e =
        let free : kept_at j c.peer c.key ≡ None = none (kept_at j c.peer c.key) fresh in
        let fails : has_key c.peer c.key x.what ≡ false = none_passes (λ (y : Entry). has_key c.peer c.key y.what) 0 j free m x stands in
        let passes = own_key x.what d c.peer c.key e same_peer same_key in cc

-- two credits of one peer under one key are one
abbrev Single : Entries → Type 0
Single j = (k m : ℕ) (c d : Credited) → credit_at j k ≡ Some c → credit_at j m ≡ Some d → c.peer ≡ d.peer → c.key ≡ d.key → k ≡ m

single : (book : PlainBook) (j : Entries) → Each (KeepsRuleOf book) j → Single j
single book = by_push (λ j. Each (KeepsRuleOf book) j → Single j) (λ _ k m c d at. absurd cc) more
  where
    more : (j : Entries) (e : Entry) → (Each (KeepsRuleOf book) j → Single j) → Each (KeepsRuleOf book) (j ++ e ∷ []) → Single (j ++ e ∷ [])
    more j e before each k m c d at_k at_m same_peer same_key =
        let parts : Each (KeepsRuleOf book) j × KeepsRuleOf book j e = Each-parts (KeepsRuleOf book) j e each in
        of (k == length j) (m == length j) refl refl (sym (stands_at-push as_credit j e k) ∙ at_k) (sym (stands_at-push as_credit j e m) ∙ at_m) parts
      where
        of : (a b : Bool) → (k == length j) ≡ a → (m == length j) ≡ b → cond a (as_credit e.what) (credit_at j k) ≡ Some c → cond b (as_credit e.what) (credit_at j m) ≡ Some d
            → Each (KeepsRuleOf book) j × KeepsRuleOf book j e → k ≡ m
        of true true last also at_k at_m parts = eqb-true k (length j) last ∙ sym (eqb-true m (length j) also)
        of true false last other at_k at_m parts = absurd (not_both j c d m (rule_credits book.config book.period book.base j e.moment e.what c at_k parts.1) at_m (sym same_peer) (sym same_key))
        of false true other last at_k at_m parts = absurd (not_both j d c k (rule_credits book.config book.period book.base j e.moment e.what d at_m parts.1) at_k same_peer same_key)
        of false false other also at_k at_m parts = before parts.0 k m c d at_k at_m same_peer same_key

pub credited_once : (book : PlainBook) → IsLawful book → Single book.entries
credited_once book lawful = single book book.entries lawful.rules
