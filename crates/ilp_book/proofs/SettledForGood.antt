-- What stands for good of settlements: the closing of one, and the credit under a key.
use Rattle.std.proofs.Common.{◌≡◌, ℕ, ◌+◌, zero-add, Bool, true, false, cond, List, [], ◌∷◌, ◌++◌, length, Option, Some, None, refl, sym, ap, ◌∙◌, subst}
use Rattle.std.specs.Prelude.{Err, is_none, is_some, IsNone, slice_get, nat_lt, option_map, option_and_then}
use Rattle.std.specs.Option.{option_or}
use Rattle.std.proofs.lemmas.Bool.{eq-eqb, le-ltb}
use Rattle.std.proofs.lemmas.Slice.Eq.{bytes_eq-Decides}
use Rattle.ilp_order.specs.Refusals.{◌>>=◌, refuse_if}
use Rattle.ilp_order.proofs.RefusalLemmas.{chosen, is_none_at}
use Rattle.ilp_assets.specs.Quote.{most}
use Rattle.ilp_journal.specs.declared.entry.Entry.{Entry}
use Rattle.ilp_journal.specs.declared.entry.What.TheVariants as what
use Rattle.ilp_journal.specs.declared.entry.Ask.{Ask}
use Rattle.ilp_journal.specs.declared.entry.Credited.{Credited}
use Rattle.ilp_journal.specs.Journal.{Entries, ask_at, closed, closing_of, is_number, is_unclosed, open_ask_at}
use Rattle.ilp_journal.proofs.Naming.{closing_of-push}
use Rattle.ilp_order.proofs.Sums.{first_from-append, slice_get-append, slice_get-push}
use Rattle.ilp_book.specs.declared.fault.CreditFault.TheVariants as credit_fault
use Rattle.ilp_rules.specs.Book.{PlainBook, By, says, entry_by, extended, with_entry, pushed}
use Rattle.ilp_journal.specs.Credits.{as_credit, credit_at, has_key, kept_at}
use Rattle.ilp_settlement.specs.declared.verdict.EngineVerdict.{EngineVerdict}
use Rattle.ilp_settlement.specs.declared.verdict.EngineVerdict.TheVariants as engine
use Rattle.ilp_book.specs.SettleStep.{payment, closing_of_verdict, amount_of, kept, credit_kept, credit_booked, credit_fresh, credit_checked, credit_step, close_booked, close_step, IsClosedBy, IsKeptBy}

-- what is found first stays the first
stays_first : {X : Type 0} (o p : Option X) (k : X) → o ≡ Some k → option_or o p ≡ Some k
stays_first None p k e = absurd cc
stays_first (Some m) p k e = e

-- ---- closings

closing_stays : (j more : Entries) (n k : ℕ) → closing_of j n ≡ Some k → closing_of (j ++ more) n ≡ Some k
closing_stays j more n k e = first_from-append (λ _ (d : Entry). is_number n (closed d.what)) 0 j more ∙ stays_first (closing_of j n) _ k e

closes_it : (n : ℕ) (v : EngineVerdict) → is_number n (closed (closing_of_verdict n v)) ≡ true
closes_it n engine.Accepted = eq-eqb n n refl
closes_it n engine.Refused = eq-eqb n n refl

-- an entry that names a settlement without a closing is its closing
closed_by_last : (j : Entries) (n : ℕ) (e : Entry) → is_unclosed j n ≡ true → is_number n (closed e.what) ≡ true → closing_of (j ++ e ∷ []) n ≡ Some (length j)
closed_by_last j n e unclosed names =
    closing_of-push j e n ∙ last (closing_of j n) (is_number n (closed e.what)) (is_none_at (closing_of j n) unclosed) names
  where
    last : (o : Option ℕ) (b : Bool) → IsNone o → b ≡ true → option_or o (cond b (Some (length j)) None) ≡ Some (length j)
    last None true none names = refl
    last None false none names = cc
    last (Some k) b none names = cc

-- where a settlement has a closing a later one is told of it
told_of_it : (book : PlainBook) (caller : By) (n k : ℕ) (verdict : EngineVerdict) → closing_of book.entries n ≡ Some k
    → close_booked book caller n verdict (open_ask_at book.entries n) ≡ says (Err (record { closer = Some k }))
told_of_it book caller n k verdict named = of (closing_of book.entries n) named
  where
    of : (o : Option ℕ) → o ≡ Some k → close_booked book caller n verdict (cond (is_none o) (ask_at book.entries n) None) ≡ says (Err (record { closer = Some k }))
    of None e = absurd cc
    of (Some l) e = ap (λ c. says (Err (record { closer = c }))) named

-- the first closing of an open settlement stands
pub first_closing : (book : PlainBook) (caller : By) (n : ℕ) (a : Ask) (verdict : EngineVerdict) → open_ask_at book.entries n ≡ Some a
    → IsClosedBy (with_entry book (close_step book caller n verdict).entry) n (length book.entries)
unfolding close_step
first_closing book caller n a verdict is =
    let j = book.entries in
    let e : Entry = entry_by book caller (closing_of_verdict n verdict) in
    let open_ask : (is_unclosed j n ≡ true) × (ask_at j n ≡ Some a) = chosen (is_unclosed j n) (ask_at j n) a is in
    let closed_now : closing_of (j ++ e ∷ []) n ≡ Some (length j) = closed_by_last j n e open_ask.0 (closes_it n verdict) in
    subst (λ o. IsClosedBy (with_entry book (close_booked book caller n verdict o).entry) n (length j)) (sym is)
    (λ more later v. told_of_it (extended (pushed book e) more) later n (length j) v (closing_stays (j ++ e ∷ []) more n (length j) closed_now))

-- ---- credits

-- what is kept stays kept
kept_stays : (j more : Entries) (peer : ℕ) (key : List ℕ) (x : ℕ × Credited) → kept j peer key ≡ Some x → kept (j ++ more) peer key ≡ Some x
kept_stays j more peer key x e = of (kept_at j peer key) refl e
  where
    at_last : (o : Option Entry) (n : ℕ) → option_map (λ (c : Credited). (n, c)) (option_and_then (λ (d : Entry). as_credit d.what) o) ≡ Some x → is_some o ≡ true
    at_last None n e = absurd cc
    at_last (Some d) n e = refl

    of : (o : Option ℕ) → kept_at j peer key ≡ o → option_and_then {U = ℕ × Credited} (λ n. option_map (λ (c : Credited). (n, c)) (credit_at j n)) o ≡ Some x → kept (j ++ more) peer key ≡ Some x
    of None is e = absurd cc
    of (Some n) is e =
        let first : kept_at (j ++ more) peer key ≡ Some n = first_from-append (λ _ (d : Entry). has_key peer key d.what) 0 j more ∙ stays_first (kept_at j peer key) _ n is in
        let stands : slice_get (j ++ more) n ≡ slice_get j n = slice_get-append j more n (at_last (slice_get j n) n e) in
        ap (option_and_then {U = ℕ × Credited} (λ k. option_map (λ (c : Credited). (k, c)) (credit_at (j ++ more) k))) first
        ∙ ap (λ o. option_map (λ (c : Credited). (n, c)) (option_and_then (λ (d : Entry). as_credit d.what) o)) stands ∙ e

-- so each settlement under its key is answered by it
pub kept_for_good : (book : PlainBook) (peer : ℕ) (key : List ℕ) (x : ℕ × Credited) → kept book.entries peer key ≡ Some x → IsKeptBy book peer key x
unfolding credit_step credit_checked
kept_for_good book peer key x is more caller quantity kind growth small =
    let p = payment peer key quantity kind in
    let later = extended book more in
    let Answers : Bool → Option (ℕ × Credited) → Type 0 = λ large o.
    credit_booked later caller growth (refuse_if large (Err credit_fault.TooLarge) >>= λ _. credit_fresh later p o) ≡ says (credit_kept quantity kind x) in
    let fits : nat_lt most (amount_of book.config p) ≡ false = le-ltb most (amount_of book.config p) small in
    subst (λ b. Answers b (kept later.entries peer key)) (sym fits) (subst (Answers false) (sym (kept_stays book.entries more peer key x is)) refl)

-- a credit that is booked is kept under its key
pub credited_is_kept : (book : PlainBook) (caller : By) (c : Credited) → IsNone (kept_at book.entries c.peer c.key)
    → kept (book.entries ++ entry_by book caller (what.Credited c) ∷ []) c.peer c.key ≡ Some (length book.entries, c)
credited_is_kept book caller c fresh =
    let j = book.entries in
    let e : Entry = entry_by book caller (what.Credited c) in
    let own : has_key c.peer c.key e.what ≡ true = rw (eq-eqb c.peer c.peer refl, (bytes_eq-Decides c.key c.key).1 refl) refl in
    let first : kept_at (j ++ e ∷ []) c.peer c.key ≡ Some (length j)
    = first_from-append (λ _ (d : Entry). has_key c.peer c.key d.what) 0 j (e ∷ []) ∙ last (kept_at j c.peer c.key) (has_key c.peer c.key e.what) fresh own in
    ap (option_and_then {U = ℕ × Credited} (λ k. option_map (λ (d : Credited). (k, d)) (credit_at (j ++ e ∷ []) k))) first
    ∙ ap (λ o. option_map (λ (d : Credited). (length j, d)) (option_and_then (λ (d : Entry). as_credit d.what) o)) (slice_get-push j e (length j) ∙ ap (λ b. cond b (Some e) (slice_get j (length j))) (eq-eqb (length j) (length j) refl))
  where
    last : (o : Option ℕ) (b : Bool) → IsNone o → b ≡ true → option_or o (cond b (Some (0 + length book.entries)) None) ≡ Some (length book.entries)
    last None true none names = ap Some (zero-add (length book.entries))
    last None false none names = cc
    last (Some k) b none names = cc
