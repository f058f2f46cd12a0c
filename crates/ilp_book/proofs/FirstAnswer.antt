-- The first entry that answers a hold is the one: each later answer is told of it, and no expiry takes the hold.
use Rattle.std.proofs.Common.{◌≡◌, ℕ, ℤ, Bool, true, false, cond, List, [], ◌∷◌, ◌++◌, length, Option, Some, None, refl, subst, sym, ap, ◌∙◌}
use Rattle.std.specs.Prelude.{IsNone, is_none, Result, Ok, Err, ◌≤ℤ◌}
use Rattle.std.specs.Option.{option_or}
use Rattle.std.proofs.lemmas.Bool.{eq-eqb}
use Rattle.ilp_journal.specs.declared.entry.Entry.{Entry}
use Rattle.ilp_journal.specs.declared.entry.Hold.{Hold}
use Rattle.ilp_journal.specs.declared.entry.Cause.{Cause}
use Rattle.ilp_journal.specs.declared.entry.Cause.TheVariants as cause
use Rattle.ilp_journal.specs.Journal.{Entries, answered, answer_of, is_number, is_unanswered, hold_at, open_hold_at}
use Rattle.ilp_journal.proofs.Naming.{answer_of-push, answer_of-append}
use Rattle.ilp_book.specs.declared.calls.PeerReply.{PeerReply}
use Rattle.ilp_rules.specs.Book.{PlainBook, By, says, moment_at, entry_by, extended, with_entry, pushed}
use Rattle.ilp_book.specs.AnswerStep.{ending, answer_booked, answer_step, due, expire_booked, expire_step, judged_reply, IsOverBy}
use Rattle.ilp_order.proofs.RefusalLemmas.{some_same, is_none_at, is_some_at}
use Rattle.ilp_rules.proofs.Standing.{open_stands}
use Rattle.ilp_book.proofs.AnswerSteps.{due_facts}

names_it : (n : ℕ) (v : Result (List ℕ) Cause) → is_number n (answered (ending n v)) ≡ true
names_it n (Ok preimage) = eq-eqb n n refl
names_it n (Err c) = eq-eqb n n refl

-- an entry that names a hold without an answer is its answer
answered_by : (j : Entries) (n : ℕ) (e : Entry) → is_unanswered j n ≡ true → is_number n (answered e.what) ≡ true → answer_of (j ++ e ∷ []) n ≡ Some (length j)
answered_by j n e unanswered names =
    answer_of-push j e n ∙ last (answer_of j n) (is_number n (answered e.what)) (is_none_at (answer_of j n) unanswered) names
  where
    last : (o : Option ℕ) (b : Bool) → IsNone o → b ≡ true → option_or o (cond b (Some (length j)) None) ≡ Some (length j)
    last None true none names = refl
    last None false none names = cc
    last (Some k) b none names = cc

-- where a hold has an answer a later one is told of it
told_of_it : (book : PlainBook) (caller : By) (n k : ℕ) (reply : PeerReply) → answer_of book.entries n ≡ Some k
    → answer_booked book caller n reply (open_hold_at book.entries n) ≡ says (Err (record { closer = Some k }))
told_of_it book caller n k reply named = of (answer_of book.entries n) named
  where
    of : (o : Option ℕ) → o ≡ Some k → answer_booked book caller n reply (cond (is_none o) (hold_at book.entries n) None) ≡ says (Err (record { closer = Some k }))
    of None e = absurd cc
    of (Some l) e = ap (λ c. says (Err (record { closer = c }))) named

-- no sweep takes a hold that has an answer
not_due : (book : PlainBook) (caller : By) (n k : ℕ) (m : ℤ) → answer_of book.entries n ≡ Some k → (expire_booked book caller (due book.entries m)).reply ≡ Some n → ⊥
not_due book caller n k m named = of (due book.entries m) refl
  where
    never : (o : Option ℕ) → o ≡ Some k → is_none o ≡ true → ⊥
    never None e none = cc
    never (Some l) e none = cc

    of : (o : Option ℕ) → due book.entries m ≡ o → (expire_booked book caller o).reply ≡ Some n → ⊥
    of None is e = cc
    of (Some i) is e = never (answer_of book.entries n) named (due_facts book.entries m n (is ∙ e)).2

-- a hold that has an answer is over
over : (book : PlainBook) (n k : ℕ) → answer_of book.entries n ≡ Some k → IsOverBy book n k
unfolding answer_step expire_step
over book n k named = record {
  answers = λ more caller reply. told_of_it (extended book more) caller n k reply (stays more);
  expiries = λ more caller. not_due (extended book more) caller n k (moment_at (book.entries ++ more) caller.now) (stays more);
}
  where
    stays : (more : Entries) → answer_of (book.entries ++ more) n ≡ Some k
    stays more = answer_of-append book.entries more n (is_some_at (answer_of book.entries n) k named) ∙ named

-- the first answer of an open hold ends it
pub first_answer : (book : PlainBook) (caller : By) (n : ℕ) (h : Hold) (reply : PeerReply) → open_hold_at book.entries n ≡ Some h
    → IsOverBy (with_entry book (answer_step book caller n reply).entry) n (length book.entries)
unfolding answer_step
first_answer book caller n h reply open_hold =
    let v = judged_reply h (moment_at book.entries caller.now) reply in
    let e : Entry = entry_by book caller (ending n v) in
    subst (λ o. IsOverBy (with_entry book (answer_booked book caller n reply o).entry) n (length book.entries)) (sym open_hold)
    (over (pushed book e) n (length book.entries) (answered_by book.entries n e (open_stands book.entries n h open_hold).0 (names_it n v)))

-- the sweep that takes a hold ends it
pub first_expiry : (book : PlainBook) (caller : By) (n : ℕ) → (expire_step book caller).reply ≡ Some n
    → IsOverBy (with_entry book (expire_step book caller).entry) n (length book.entries)
unfolding expire_step
first_expiry book caller n taken = of (due book.entries (moment_at book.entries caller.now)) (λ i e. due_facts book.entries (moment_at book.entries caller.now) i e) taken
  where
    of : (o : Option ℕ) → ((i : ℕ) → o ≡ Some i → (h : Hold) × (hold_at book.entries i ≡ Some h) × (is_unanswered book.entries i ≡ true) × (h.deadline ≤ℤ moment_at book.entries caller.now))
        → (expire_booked book caller o).reply ≡ Some n → IsOverBy (with_entry book (expire_booked book caller o).entry) n (length book.entries)
    of None facts e = absurd cc
    of (Some i) facts e =
        let same : i ≡ n = some_same i n e in
        let d : Entry = entry_by book caller (ending i (Err cause.Late)) in
        subst (λ k. IsOverBy (pushed book d) k (length book.entries)) same
        (over (pushed book d) i (length book.entries) (answered_by book.entries i d (facts i refl).2 (names_it i (Err cause.Late))))
