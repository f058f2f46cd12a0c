-- An answer or an expiry that a step appends to a lawful journal is admitted by its rules.
use Rattle.std.proofs.Common.{◌≡◌, ℕ, suc, ◌+◌, ℤ, Bool, true, false, cond, not, List, [], ◌∷◌, length, Option, Some, None, refl, sym, ap, ◌∙◌, subst, arith}
use Rattle.std.specs.Prelude.{Result, Ok, Err, ◌≤ℤ◌, ◌<ℤ◌, int_le, int_lt, ◌↔◌, ◌≢◌, option_map, option_and_then}
use Rattle.std.proofs.lemmas.Int.{ints}
use Rattle.ilp_order.specs.Refusals.{◌>>=◌, refuse_if}
use Rattle.ilp_accounts.specs.Configuration.{Configuration}
use Rattle.ilp_journal.specs.declared.entry.Entry.{Entry}
use Rattle.ilp_journal.specs.declared.entry.What.TheVariants as what
use Rattle.ilp_journal.specs.declared.entry.Cause.{Cause}
use Rattle.ilp_journal.specs.declared.entry.Cause.TheVariants as cause
use Rattle.ilp_journal.specs.declared.entry.Hold.{Hold}
use Rattle.ilp_journal.specs.Journal.{Entries, hold_at, as_hold, is_unanswered, open_hold_at}
use Rattle.ilp_book.specs.declared.calls.PeerReply.{PeerReply}
use Rattle.ilp_book.specs.declared.calls.PeerReply.TheVariants as peer_reply
use Rattle.ilp_book.specs.declared.calls.Outcome.{Outcome}
use Rattle.ilp_book.specs.declared.calls.Outcome.TheVariants as outcome
use Rattle.ilp_book.specs.declared.fault.NotOpen.{NotOpen}
use Rattle.ilp_terms.specs.Condition.{meets}
use Rattle.ilp_rules.specs.Book.{PlainBook, By, moment_at, entry_by, with_entry, pushed}
use Rattle.ilp_rules.specs.Open.{earlier, numbered_hold, earliest_from, earliest}
use Rattle.ilp_rules.specs.Lawful.{IsLawful, KeepsRule}
use Rattle.ilp_book.specs.AnswerStep.{preimage_of, judged_reply, ending, outcome_of, answer_booked, answer_step, due, expire_booked, expire_step}
use Rattle.ilp_rules.proofs.LawfulGrowth.{Admits, lawful_push, limits_now}
use Rattle.ilp_order.proofs.RefusalLemmas.{chosen, some_same, ok_same}
use Rattle.ilp_rules.proofs.InTime.{in_time, calm}

-- ---- replies that are judged

-- A preimage is good and not late. A cause is Late where it is late, and another where it is not; no reply makes it Restart.
abbrev Tells : Bool → (List ℕ → Bool) → Result (List ℕ) Cause → Type 0
Tells late good (Ok preimage) = (good preimage ≡ true) × (late ≡ false)
Tells true good (Err c) = c ≡ cause.Late
Tells false good (Err c) = (c ≢ cause.Late) × (c ≢ cause.Restart)

-- a judged reply in terms of its tests
reply_tests : (late : Bool) (reply : PeerReply) (good : List ℕ → Bool) (v : Result (List ℕ) Cause)
    → (refuse_if late cause.Late >>= λ _. preimage_of reply >>= λ preimage. refuse_if (not (good preimage)) cause.WrongPreimage >>= λ _. Ok preimage) ≡ v
    → Tells late good v
reply_tests true reply good v e = subst (Tells true good) e refl
reply_tests false (peer_reply.Fulfill preimage) good v e = of_test (good preimage) refl e
  where
    of_test : (b : Bool) → good preimage ≡ b → (refuse_if (not b) cause.WrongPreimage >>= λ _. Ok preimage) ≡ v → Tells false good v
    of_test true g e = subst (Tells false good) e (g, refl)
    of_test false g e = subst (Tells false good) e (λ e. cc, λ e. cc)
reply_tests false peer_reply.BadFulfill good v e = subst (Tells false good) e (λ e. cc, λ e. cc)
reply_tests false (peer_reply.Reject code) good v e = subst (Tells false good) e (λ e. cc, λ e. cc)
reply_tests false peer_reply.NoReply good v e = subst (Tells false good) e (λ e. cc, λ e. cc)

-- an answer of an open hold keeps its rule
answer_rule : (C : Configuration) (period base : ℕ) (j : Entries) (n : ℕ) (m : ℤ) (h : Hold) (reply : PeerReply) → open_hold_at j n ≡ Some h → KeepsRule C period base j m (ending n (judged_reply h m reply))
unfolding judged_reply
answer_rule C period base j n m h reply is = of (judged_reply h m reply) (reply_tests (int_le h.deadline m) reply (meets h.condition) (judged_reply h m reply) refl)
  where
    late : (a b : ℤ) → int_le a b ≡ true → a ≤ℤ b
    late a b e = omega (arith, ints)

    early : (a b : ℤ) → int_le a b ≡ false → b <ℤ a
    early a b e = omega (arith, ints)

    never : (a b : ℤ) → int_le a b ≡ false → a ≤ℤ b → ⊥
    never a b e h = omega (arith, ints)

    released : (b : Bool) (c : Cause) → int_le h.deadline m ≡ b → Tells b (meets h.condition) (Err c) → (c ≡ cause.Late) ↔ (h.deadline ≤ℤ m)
    released true c e t = (λ _. late h.deadline m e, λ _. t)
    released false c e t = (λ is. absurd (t.0 is), λ is. absurd (never h.deadline m e is))

    no_restart : (b : Bool) (c : Cause) → Tells b (meets h.condition) (Err c) → c ≡ cause.Restart → ⊥
    no_restart true c t is = let same : cause.Late ≡ cause.Restart = sym t ∙ is in cc
    no_restart false c t is = t.1 is

    of : (v : Result (List ℕ) Cause) → Tells (int_le h.deadline m) (meets h.condition) v → KeepsRule C period base j m (ending n v)
    of (Ok preimage) t = rw is (t.0, early h.deadline m t.1)
    of (Err c) t = (rw is (released (int_le h.deadline m) c refl t), λ restart. absurd (no_restart (int_le h.deadline m) c t restart))

-- ---- answers

-- the end of an open hold is admitted
answer_admitted : (book : PlainBook) (caller : By) (n : ℕ) (v : Result (List ℕ) Cause) → IsLawful book
    → KeepsRule book.config book.period book.base book.entries (moment_at book.entries caller.now) (ending n v) → Admits book (entry_by book caller (ending n v))
answer_admitted book caller n (Ok preimage) lawful rule =
    let r = (limits_now book lawful).room in
    calm book (entry_by book caller (what.Fulfilled n preimage)) lawful rule
    (in_time book caller (what.Fulfilled n preimage) lawful) (λ _. refl) (λ _. refl) (omega (arith, r))
answer_admitted book caller n (Err c) lawful rule =
    let r = (limits_now book lawful).room in
    calm book (entry_by book caller (what.Released n c)) lawful rule
    (in_time book caller (what.Released n c) lawful) (λ _. refl) (λ _. refl) (omega (arith, r))

-- the entry of an answer keeps the book lawful
pub answer_keeps : (book : PlainBook) (caller : By) (n : ℕ) (reply : PeerReply) (h : Hold) → IsLawful book → open_hold_at book.entries n ≡ Some h
    → IsLawful (pushed book (entry_by book caller (ending n (judged_reply h (moment_at book.entries caller.now) reply))))
answer_keeps book caller n reply h lawful is =
    let m = moment_at book.entries caller.now in
    lawful_push book _ lawful (answer_admitted book caller n (judged_reply h m reply) lawful (answer_rule book.config book.period book.base book.entries n m h reply is))

-- the entry of an answer keeps the book lawful, where its moment and how its reply is judged are known by equations
pub answer_keeps_at : (book : PlainBook) (caller : By) (n : ℕ) (reply : PeerReply) (h : Hold) (m : ℤ) (v : Result (List ℕ) Cause) → IsLawful book → open_hold_at book.entries n ≡ Some h
    → m ≡ moment_at book.entries caller.now → v ≡ judged_reply h m reply → IsLawful (pushed book (record { moment = m; actor = caller.actor; what = ending n v }))
answer_keeps_at book caller n reply h m v lawful is at_moment said =
    let Keeps : ℤ → Result (List ℕ) Cause → Type 0 = λ t r. IsLawful (pushed book (record { moment = t; actor = caller.actor; what = ending n r })) in
    subst (Keeps m) (sym said) (subst (λ t. Keeps t (judged_reply h t reply)) (sym at_moment) (answer_keeps book caller n reply h lawful is))

pub answer_lawful : (book : PlainBook) (caller : By) (n : ℕ) (reply : PeerReply) → IsLawful book → IsLawful (with_entry book (answer_step book caller n reply).entry)
unfolding answer_step
answer_lawful book caller n reply lawful = of (open_hold_at book.entries n) (λ h. answer_keeps book caller n reply h lawful)
  where
    of : (o : Option Hold) → ((h : Hold) → o ≡ Some h → IsLawful (pushed book (entry_by book caller (ending n (judged_reply h (moment_at book.entries caller.now) reply)))))
        → IsLawful (with_entry book (answer_booked book caller n reply o).entry)
    of None keeps = lawful
    of (Some h) keeps = keeps h refl

-- ---- expiry

-- the earliest hold stands at its place, and passes the test
pub earliest_stands : (test : ℕ → Bool) (k : ℕ) (es : Entries) (x : ℕ × Hold) → earliest_from test k es ≡ Some x → (i : ℕ) × (x.0 ≡ k + i) × (test x.0 ≡ true) × (hold_at es i ≡ Some x.1)
earliest_stands test k [] x e = absurd cc
earliest_stands test k (d ∷ es) x e =
    either _ (earliest_from test (k + 1) es) here (λ e. let r = earliest_stands test (k + 1) es x e in (suc r.0, r.1 ∙ omega arith, r.2, r.3)) e
  where
    either : (a b : Option (ℕ × Hold)) → (a ≡ Some x → (i : ℕ) × (x.0 ≡ k + i) × (test x.0 ≡ true) × (hold_at (d ∷ es) i ≡ Some x.1)) → (b ≡ Some x → (i : ℕ) × (x.0 ≡ k + i) × (test x.0 ≡ true) × (hold_at (d ∷ es) i ≡ Some x.1))
        → earlier a b ≡ Some x → (i : ℕ) × (x.0 ≡ k + i) × (test x.0 ≡ true) × (hold_at (d ∷ es) i ≡ Some x.1)
    either None b f g e = g e
    either (Some a) None f g e = f e
    either (Some a) (Some b) f g e = pick (int_lt b.1.deadline a.1.deadline) e
      where
        pick : (t : Bool) → cond t (Some b) (Some a) ≡ Some x → (i : ℕ) × (x.0 ≡ k + i) × (test x.0 ≡ true) × (hold_at (d ∷ es) i ≡ Some x.1)
        pick true e = g e
        pick false e = f e

    here : cond (test k) (numbered_hold k d.what) None ≡ Some x → (i : ℕ) × (x.0 ≡ k + i) × (test x.0 ≡ true) × (hold_at (d ∷ es) i ≡ Some x.1)
    here e = of_test (as_hold d.what) refl (chosen (test k) (numbered_hold k d.what) x e)
      where
        of_test : (o : Option Hold) → as_hold d.what ≡ o → (test k ≡ true) × (option_map (λ (h : Hold). (k, h)) o ≡ Some x) → (i : ℕ) × (x.0 ≡ k + i) × (test x.0 ≡ true) × (hold_at (d ∷ es) i ≡ Some x.1)
        of_test None is t = absurd (let f : None ≡ Some x = t.1 in cc)
        of_test (Some h) is t =
            let same : ◌≡◌ {A = ℕ × Hold} (k, h) x = some_same (k, h) x t.1 in
            (0, sym (ap (λ (y : ℕ × Hold). y.0) same) ∙ omega arith, subst (λ (y : ℕ × Hold). test y.0 ≡ true) same t.0, is ∙ ap (λ (y : ℕ × Hold). Some y.1) same)

-- what is due is an open hold whose deadline has come
pub due_facts : (j : Entries) (m : ℤ) (n : ℕ) → due j m ≡ Some n → (h : Hold) × (hold_at j n ≡ Some h) × (is_unanswered j n ≡ true) × (h.deadline ≤ℤ m)
due_facts j m n e = of_test (earliest j) refl e
  where
    late : (a b : ℤ) → int_le a b ≡ true → a ≤ℤ b
    late a b e = omega (arith, ints)

    of_test : (o : Option (ℕ × Hold)) → earliest j ≡ o → option_and_then (λ (first : ℕ × Hold). cond (int_le first.1.deadline m) (Some first.0) None) o ≡ Some n → (h : Hold) × (hold_at j n ≡ Some h) × (is_unanswered j n ≡ true) × (h.deadline ≤ℤ m)
    of_test None is e = absurd cc
    of_test (Some first) is e =
        let t : (int_le first.1.deadline m ≡ true) × (◌≡◌ {A = Option ℕ} (Some first.0) (Some n)) = chosen (int_le first.1.deadline m) (Some first.0) n e in
        let s : (i : ℕ) × (first.0 ≡ 0 + i) × (is_unanswered j first.0 ≡ true) × (hold_at j i ≡ Some first.1) = earliest_stands (is_unanswered j) 0 j first is in
        let number : first.0 ≡ n = some_same first.0 n t.1 in
        let place : s.0 ≡ n = omega (arith, s.1, number) in
        (first.1, subst (λ k. hold_at j k ≡ Some first.1) place s.3, subst (λ k. is_unanswered j k ≡ true) number s.2, late first.1.deadline m t.0)

-- the entry of a sweep keeps the book lawful
pub expire_keeps : (book : PlainBook) (caller : By) (n : ℕ) → IsLawful book → due book.entries (moment_at book.entries caller.now) ≡ Some n
    → IsLawful (pushed book (entry_by book caller (what.Released n cause.Late)))
expire_keeps book caller n lawful is =
    let facts = due_facts book.entries (moment_at book.entries caller.now) n is in
    lawful_push book _ lawful (answer_admitted book caller n (Err cause.Late) lawful (rw (facts.2, facts.1) (λ _. facts.3, λ _. refl), λ restart. cc))

-- the entry of a sweep keeps the book lawful, where its moment is known by an equation
pub expire_keeps_at : (book : PlainBook) (caller : By) (n : ℕ) (m : ℤ) → IsLawful book → m ≡ moment_at book.entries caller.now → due book.entries m ≡ Some n
    → IsLawful (pushed book (record { moment = m; actor = caller.actor; what = what.Released n cause.Late }))
expire_keeps_at book caller n m lawful at_moment is =
    subst (λ t. IsLawful (pushed book (record { moment = t; actor = caller.actor; what = what.Released n cause.Late }))) (sym at_moment)
    (expire_keeps book caller n lawful (subst (λ t. due book.entries t ≡ Some n) at_moment is))

pub expire_lawful : (book : PlainBook) (caller : By) → IsLawful book → IsLawful (with_entry book (expire_step book caller).entry)
unfolding expire_step
expire_lawful book caller lawful = of (due book.entries (moment_at book.entries caller.now)) (λ n. expire_keeps book caller n lawful)
  where
    of : (o : Option ℕ) → ((n : ℕ) → o ≡ Some n → IsLawful (pushed book (entry_by book caller (what.Released n cause.Late)))) → IsLawful (with_entry book (expire_booked book caller o).entry)
    of None keeps = lawful
    of (Some n) keeps = keeps n refl

-- ---- what an answer replies, and what it books

-- the number of the entry that an outcome tells
abbrev pub entry_told : Outcome → ℕ
entry_told (outcome.Fulfilled entry) = entry
entry_told (outcome.Released entry c) = entry

-- an answer with an outcome books one entry, which has the number that the outcome tells
pub outcome_books_one : (book : PlainBook) (caller : By) (n : ℕ) (reply : PeerReply) (told : Outcome) → (answer_step book caller n reply).reply ≡ Ok told
    → (e : Entry) × ((answer_step book caller n reply).entry ≡ Some e) × (entry_told told ≡ length book.entries)
unfolding answer_step
outcome_books_one book caller n reply told = of (open_hold_at book.entries n)
  where
    numbered : (v : Result (List ℕ) Cause) → outcome_of (length book.entries) v ≡ told → entry_told told ≡ length book.entries
    numbered (Ok preimage) e = sym (ap entry_told e)
    numbered (Err c) e = sym (ap entry_told e)

    of : (o : Option Hold) → (answer_booked book caller n reply o).reply ≡ Ok told
        → (e : Entry) × ((answer_booked book caller n reply o).entry ≡ Some e) × (entry_told told ≡ length book.entries)
    of None e = absurd cc
    of (Some h) e =
        let v = judged_reply h (moment_at book.entries caller.now) reply in
        (entry_by book caller (ending n v), refl, numbered v (ok_same _ _ e))

-- an answer of a hold that is not open books nothing
pub not_open_books_nothing : (book : PlainBook) (caller : By) (n : ℕ) (reply : PeerReply) (fault : NotOpen) → (answer_step book caller n reply).reply ≡ Err fault
    → (answer_step book caller n reply).entry ≡ None
unfolding answer_step
not_open_books_nothing book caller n reply fault = of (open_hold_at book.entries n)
  where
    of : (o : Option Hold) → (answer_booked book caller n reply o).reply ≡ Err fault → (answer_booked book caller n reply o).entry ≡ None
    of None e = refl
    of (Some h) e = absurd cc
