-- What was brought forward stands in the journal that a desk was opened with: so all books of the desk have the same of it.
use Rattle.std.proofs.Common.{◌≡◌, ℕ, ◌≤◌, ℤ, Bool, true, false, cond, [], ◌∷◌, ◌++◌, length, Option, None, refl, sym, ap, ◌∙◌, subst, arith, append_assoc, append-nil, length-append}
use Rattle.std.specs.Prelude.{◌==◌, option_and_then, slice_get, unwrap_or}
use Rattle.std.proofs.lemmas.Bool.{eqb-true}
use Rattle.std.proofs.lemmas.Option.{slice_get_past}
use Rattle.ilp_accounts.specs.Configuration.{Configuration}
use Rattle.ilp_journal.specs.declared.entry.Entry.{Entry}
use Rattle.ilp_journal.specs.declared.entry.What.{What}
use Rattle.ilp_journal.specs.declared.entry.What.TheVariants as what
use Rattle.ilp_order.specs.Places.{Each}
use Rattle.ilp_journal.specs.Journal.{Entries}
use Rattle.ilp_journal.specs.BroughtForward.{earlier_key, earlier_key_at}
use Rattle.ilp_order.proofs.Sums.{by_push, Each-parts}
use Rattle.ilp_journal.proofs.Naming.{stands_at-push}
use Rattle.ilp_rules.specs.Heads.{settlement_key_of}
use Rattle.ilp_rules.specs.SettlementKeys.{settlement_key_at}
use Rattle.ilp_book.specs.Book.{PlainBook}
use Rattle.ilp_book.specs.Lawful.{KeepsRule, KeepsRuleOf}
use Rattle.ilp_desk.specs.Desk.{PlainDesk, IsBookOf, booked, settlement_key_in}

-- ---- of a kind that no entry from the base on is of

module _ {K : Type 0} (kind : What → Option K)
    (never : (C : Configuration) (period base : ℕ) (before : Entries) (m : ℤ) (w : What) → base ≤ length before → KeepsRule C period base before m w → kind w ≡ None) where
  -- what an entry is of the kind
  abbrev stands : Entries → ℕ → Option K
  stands j n = option_and_then (λ (e : Entry). kind e.what) (slice_get j n)

  -- an entry that is none, behind others
  by_place : (front old : Entries) (w : What) (n : ℕ) (last : Bool) → (n == length old) ≡ last → length front ≤ length old → kind w ≡ None
      → stands old n ≡ stands front n → cond last (kind w) (stands old n) ≡ stands front n
  by_place front old w n true at later none same =
      none ∙ sym (ap (option_and_then (λ (e : Entry). kind e.what)) (slice_get_past front n (omega (arith, eqb-true n (length old) at, later))))
  by_place front old w n false at later none same = same

  front_has_all : (book : PlainBook) (front : Entries) → book.base ≤ length front → (more : Entries) → Each (KeepsRuleOf book) (front ++ more)
      → (n : ℕ) → stands (front ++ more) n ≡ stands front n
  front_has_all book front low =
      by_push (λ more. Each (KeepsRuleOf book) (front ++ more) → (n : ℕ) → stands (front ++ more) n ≡ stands front n)
      (λ rules n. ap (λ (j : Entries). stands j n) (append-nil front)) one_more
    where
      one_more : (more : Entries) (e : Entry) → (Each (KeepsRuleOf book) (front ++ more) → (n : ℕ) → stands (front ++ more) n ≡ stands front n)
          → Each (KeepsRuleOf book) (front ++ (more ++ e ∷ [])) → (n : ℕ) → stands (front ++ (more ++ e ∷ [])) n ≡ stands front n
      one_more more e before rules n =
          let old : Entries = front ++ more in
          let same : old ++ e ∷ [] ≡ front ++ (more ++ e ∷ []) = append_assoc front more (e ∷ []) in
          let parts : Each (KeepsRuleOf book) old × KeepsRuleOf book old e = Each-parts (KeepsRuleOf book) old e (subst (Each (KeepsRuleOf book)) (sym same) rules) in
          let later : length front ≤ length old = omega (arith, length-append front more) in
          let none : kind e.what ≡ None = never book.config book.period book.base old e.moment e.what (omega (arith, low, later)) parts.1 in
          ap (λ (j : Entries). stands j n) (sym same) ∙ stands_at-push kind old e n
          ∙ by_place front old e.what n (n == length old) refl later none (before parts.0 n)

  -- all books of the desk have the same of it
  pub same_stands : (desk : PlainDesk) (book : PlainBook) (n : ℕ) → IsBookOf desk book → stands book.entries n ≡ stands desk.opening n
  same_stands desk book n is =
      ap (λ (j : Entries). stands j n) is.begins
      ∙ front_has_all book desk.opening (omega (arith, is.base)) (booked desk book.entries) (subst (Each (KeepsRuleOf book)) is.begins is.lawful.rules) n

-- ---- keys of settlements

no_later_key : (C : Configuration) (period base : ℕ) (before : Entries) (m : ℤ) (w : What) → base ≤ length before → KeepsRule C period base before m w → earlier_key w ≡ None
no_later_key C period base before m (what.Hold h) later rule = refl
no_later_key C period base before m (what.Fulfilled hold preimage) later rule = refl
no_later_key C period base before m (what.Released hold cause) later rule = refl
no_later_key C period base before m (what.Credited c) later rule = refl
no_later_key C period base before m (what.Asked a) later rule = refl
no_later_key C period base before m (what.Confirmed ask) later rule = refl
no_later_key C period base before m (what.Undone ask) later rule = refl
no_later_key C period base before m (what.Opened peer balance) later rule = refl
no_later_key C period base before m (what.Known c) later rule = refl
no_later_key C period base before m (what.Pending peer amount key) later rule = absurd (omega (arith, rule.begun, later))

pub same_earlier : (desk : PlainDesk) (book : PlainBook) (n : ℕ) → IsBookOf desk book → earlier_key_at book.entries n ≡ earlier_key_at desk.opening n
same_earlier desk book n is = same_stands earlier_key no_later_key desk book n is

pub same_key : (desk : PlainDesk) (book : PlainBook) (n : ℕ) → IsBookOf desk book → settlement_key_at book.config book.period book.entries n ≡ settlement_key_in desk n
same_key desk book n is =
    ap (λ (C : Configuration). unwrap_or (earlier_key_at book.entries n) (settlement_key_of C book.period n)) is.config
    ∙ ap (λ (period : ℕ). unwrap_or (earlier_key_at book.entries n) (settlement_key_of desk.config period n)) is.period
    ∙ ap (λ o. unwrap_or o (settlement_key_of desk.config desk.period n)) (same_earlier desk book n is)
