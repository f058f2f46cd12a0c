-- What follows from the rule that an entry keeps.
use Rattle.std.proofs.Common.{◌≡◌, ℕ, ℤ, Bool, true, false, cond, Option, Some, None, refl, subst}
use Rattle.std.specs.Prelude.{IsSome, IsNone, IfSome, IsSomeAnd}
use Rattle.ilp_accounts.specs.Configuration.{Configuration}
use Rattle.ilp_journal.specs.declared.entry.Entry.{Entry}
use Rattle.ilp_journal.specs.declared.entry.What.{What}
use Rattle.ilp_journal.specs.declared.entry.What.TheVariants as what
use Rattle.ilp_journal.specs.declared.entry.Hold.{Hold}
use Rattle.ilp_journal.specs.declared.entry.Credited.{Credited}
use Rattle.ilp_order.specs.Places.{Each}
use Rattle.ilp_journal.specs.Journal.{Entries, AnswersOnce, ClosesOnce, answered, closed, hold_at, ask_at, answer_of, closing_of, is_unanswered, is_unclosed, open_hold_at, open_ask_at}
use Rattle.ilp_order.proofs.Sums.{Each-each}
use Rattle.ilp_order.proofs.RefusalLemmas.{is_none_at, some_same}
use Rattle.ilp_rules.specs.Book.{PlainBook}
use Rattle.ilp_journal.specs.TrialBalance.{IsBalanced}
use Rattle.ilp_journal.proofs.TrialBalance.{trial_balance}
use Rattle.ilp_rules.specs.Configured.{peer_assets}
use Rattle.ilp_rules.specs.Lawful.{IsLawful, KeepsRule, KeepsRuleOf}
use Rattle.ilp_journal.specs.Credits.{as_credit, kept_at}

-- what is there under a test passes it
under : {X : Type 0} (b : Bool) (o : Option X) (P : X → Type 0) → IsSomeAnd (cond b o None) P → (b ≡ true) × IsSomeAnd o P
under true o P h = (refl, h)
under false o P h = absurd h

stands : {X : Type 0} (o : Option X) (P : X → Type 0) → IsSomeAnd o P → IsSome o
stands None P h = absurd h
stands (Some x) P h = refl

some_under : {X : Type 0} (b : Bool) (o : Option X) → IsSome (cond b o None) → (b ≡ true) × IsSome o
some_under true o h = (refl, h)
some_under false o h = absurd cc

-- ---- what ends once

-- an entry that keeps its rule answers an open hold, if any
pub rule_answers : (C : Configuration) (period base : ℕ) (j : Entries) (e : Entry) → KeepsRule C period base j e.moment e.what → AnswersOnce j e
rule_answers C period base j e rule = of e.what rule
  where
    ended : (n : ℕ) (P : Hold → Type 0) → IsSomeAnd (open_hold_at j n) P → IsSome (hold_at j n) × IsNone (answer_of j n)
    ended n P h =
        let found = under (is_unanswered j n) (hold_at j n) P h in
        (stands (hold_at j n) P found.1, is_none_at (answer_of j n) found.0)

    of : (w : What) → KeepsRule C period base j e.moment w → IfSome (answered w) (λ n. IsSome (hold_at j n) × IsNone (answer_of j n))
    of (what.Hold h) rule = tt
    of (what.Fulfilled n preimage) rule = ended n _ rule
    of (what.Released n cause) rule = ended n _ rule.0
    of (what.Credited c) rule = tt
    of (what.Asked a) rule = tt
    of (what.Confirmed n) rule = tt
    of (what.Undone n) rule = tt
    of (what.Opened peer balance) rule = tt
    of (what.Known c) rule = tt
    of (what.Pending peer amount key) rule = tt

-- and closes an open settlement, if any
pub rule_closes : (C : Configuration) (period base : ℕ) (j : Entries) (e : Entry) → KeepsRule C period base j e.moment e.what → ClosesOnce j e
rule_closes C period base j e rule = of e.what rule
  where
    ended : (n : ℕ) → IsSome (open_ask_at j n) → IsSome (ask_at j n) × IsNone (closing_of j n)
    ended n h =
        let found = some_under (is_unclosed j n) (ask_at j n) h in
        (found.1, is_none_at (closing_of j n) found.0)

    of : (w : What) → KeepsRule C period base j e.moment w → IfSome (closed w) (λ n. IsSome (ask_at j n) × IsNone (closing_of j n))
    of (what.Hold h) rule = tt
    of (what.Fulfilled n preimage) rule = tt
    of (what.Released n cause) rule = tt
    of (what.Credited c) rule = tt
    of (what.Asked a) rule = tt
    of (what.Confirmed n) rule = ended n rule
    of (what.Undone n) rule = ended n rule
    of (what.Opened peer balance) rule = tt
    of (what.Known c) rule = tt
    of (what.Pending peer amount key) rule = tt

-- so each hold of a lawful journal is answered once, and each settlement closed once
pub answers_once : (book : PlainBook) → IsLawful book → Each AnswersOnce book.entries
answers_once book lawful = Each-each (KeepsRuleOf book) AnswersOnce book.entries (λ j e rule. rule_answers book.config book.period book.base j e rule) lawful.rules

pub closes_once : (book : PlainBook) → IsLawful book → Each ClosesOnce book.entries
closes_once book lawful = Each-each (KeepsRuleOf book) ClosesOnce book.entries (λ j e rule. rule_closes book.config book.period book.base j e rule) lawful.rules

-- ---- credits

-- a credit that keeps its rule has a key that its peer has not used, of this period or of an earlier one
pub rule_credits : (C : Configuration) (period base : ℕ) (j : Entries) (m : ℤ) (w : What) (c : Credited) → as_credit w ≡ Some c → KeepsRule C period base j m w → IsNone (kept_at j c.peer c.key)
rule_credits C period base j m (what.Hold h) c is rule = absurd cc
rule_credits C period base j m (what.Fulfilled n preimage) c is rule = absurd cc
rule_credits C period base j m (what.Released n cause) c is rule = absurd cc
rule_credits C period base j m (what.Credited d) c is rule = subst (λ (x : Credited). IsNone (kept_at j x.peer x.key)) (some_same d c is) rule.fresh
rule_credits C period base j m (what.Asked a) c is rule = absurd cc
rule_credits C period base j m (what.Confirmed n) c is rule = absurd cc
rule_credits C period base j m (what.Undone n) c is rule = absurd cc
rule_credits C period base j m (what.Opened peer balance) c is rule = absurd cc
rule_credits C period base j m (what.Known d) c is rule = subst (λ (x : Credited). IsNone (kept_at j x.peer x.key)) (some_same d c is) rule.rule.1
rule_credits C period base j m (what.Pending peer amount key) c is rule = absurd cc

-- a lawful book is balanced
pub lawful_balanced : (book : PlainBook) (x : ℕ) → IsLawful book → IsBalanced (peer_assets book.config) book.entries x
lawful_balanced book x lawful = trial_balance (peer_assets book.config) x book.entries (answers_once book lawful)
