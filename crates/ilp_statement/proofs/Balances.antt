-- What an entry does to the balance of the entries before it.
use Rattle.std.proofs.Common.{◌≡◌, ℕ, suc, ◌+◌, ◌<◌, pos, ◌+ℤ◌, ◌-ℤ◌, List, [], ◌∷◌, ◌++◌, length, cond, Option, Some, refl, sym, ap, subst, ◌∙◌, arith, append_assoc}
use Rattle.std.specs.Prelude.{take, drop, slice_get, unwrap_or, option_map, ◌==◌, IfSome, IsSome, IsNone}
use Rattle.ilp_journal.specs.declared.entry.Entry.{Entry}
use Rattle.ilp_journal.specs.declared.entry.What.{What}
use Rattle.ilp_journal.specs.declared.entry.What.TheVariants as what
use Rattle.ilp_journal.specs.declared.entry.Hold.{Hold}
use Rattle.ilp_journal.specs.declared.entry.Ask.{Ask}
use Rattle.ilp_order.specs.Places.{Each}
use Rattle.ilp_order.proofs.Sums.{Each-parts}
use Rattle.ilp_journal.specs.Journal.{Entries, hold_at, ask_at, answered, closed, answer_of, closing_of, AnswersOnce, ClosesOnce}
use Rattle.ilp_journal.specs.Balance.{balance, rise, fall, rise_at, fall_at}
use Rattle.ilp_journal.proofs.Growth.{balance-push}
use Rattle.ilp_journal.proofs.Naming.{hold_at-append, ask_at-append}
use Rattle.ilp_book.specs.Book.{PlainBook}
use Rattle.ilp_rules.specs.Lawful.{IsLawful}
use Rattle.ilp_rules.proofs.Rules.{answers_once, closes_once}
use Rattle.ilp_statement.proofs.Entries.{StandsAt, stands_at, Each-first}

-- a balance begins at 0
pub balance_of_none : (p : ℕ) → balance [] p ≡ pos 0
unfolding balance
balance_of_none p = refl

-- what an entry names is looked up alike in every longer journal
rise_stays : (j more : Entries) (p : ℕ) (w : What) → IfSome (answered w) (λ n. IsSome (hold_at j n) × IsNone (answer_of j n))
    → IfSome (closed w) (λ n. IsSome (ask_at j n) × IsNone (closing_of j n)) → rise (j ++ more) p w ≡ rise j p w
rise_stays j more p (what.Hold h) a c = refl
rise_stays j more p (what.Fulfilled hold preimage) a c = ap (λ o. unwrap_or (option_map (λ (h : Hold). cond (h.to == p) h.out 0) o) 0) (hold_at-append j more hold a.0)
rise_stays j more p (what.Released hold cause) a c = ap (λ o. unwrap_or (option_map (λ (h : Hold). cond (h.from == p) h.amount 0) o) 0) (hold_at-append j more hold a.0)
rise_stays j more p (what.Credited credit) a c = refl
rise_stays j more p (what.Asked ask) a c = refl
rise_stays j more p (what.Confirmed ask) a c = refl
rise_stays j more p (what.Undone ask) a c = ap (λ o. unwrap_or (option_map (λ (q : Ask). cond (q.peer == p) q.amount 0) o) 0) (ask_at-append j more ask c.0)
rise_stays j more p (what.Opened peer balance) a c = refl
rise_stays j more p (what.Known credit) a c = refl
rise_stays j more p (what.Pending peer amount key) a c = refl

-- the balance of the entries up to one is that of those before it and what it does itself
pub balance_behind : (book : PlainBook) (p n : ℕ) → IsLawful book → n < length book.entries
    → balance (take (n + 1) book.entries) p ≡ balance (take n book.entries) p +ℤ pos (rise_at book.entries p n) -ℤ pos (fall_at book.entries p n)
balance_behind book p n lawful within =
    let j = book.entries in
    let at = stands_at j n within in
    let e = at.here in
    let first = take n j in
    let split : j ≡ (first ++ e ∷ []) ++ drop (suc n) j = at.whole ∙ sym (append_assoc first (e ∷ []) (drop (suc n) j)) in
    let answers = Each-parts AnswersOnce first e (Each-first AnswersOnce [] (first ++ e ∷ []) (drop (suc n) j) (subst (Each AnswersOnce) split (answers_once book lawful))) in
    let closes = Each-parts ClosesOnce first e (Each-first ClosesOnce [] (first ++ e ∷ []) (drop (suc n) j) (subst (Each ClosesOnce) split (closes_once book lawful))) in
    let same : rise j p e.what ≡ rise first p e.what = ap (λ k. rise k p e.what) at.whole ∙ rise_stays first (e ∷ drop (suc n) j) p e.what answers.1 closes.1 in
    let raised : rise_at j p n ≡ rise first p e.what = ap (λ o. unwrap_or (option_map (λ (d : Entry). rise j p d.what) o) 0) at.got ∙ same in
    let lowered : fall_at j p n ≡ fall p e.what = ap (λ o. unwrap_or (option_map (λ (d : Entry). fall p d.what) o) 0) at.got in
    let more : n + 1 ≡ suc n = omega arith in
    ap (λ k. balance (take k j) p) more ∙ ap (λ k. balance k p) at.before ∙ balance-push first e p answers.0 closes.0 answers.1 closes.1
    ∙ ap (λ r. balance first p +ℤ pos r -ℤ pos (fall p e.what)) (sym raised) ∙ ap (λ f. balance first p +ℤ pos (rise_at j p n) -ℤ pos f) (sym lowered)
