-- The ends of the holds that are open where a journal ends.
use Rattle.std.proofs.Common.{◌≡◌, ℕ, zero, suc, ◌+◌, ◌<◌, ◌≤◌, ℤ, pos, Bool, true, false, cond, [], ◌∷◌, ◌++◌, length, inl, inr, Option, Some, None, refl, sym, ap, ◌∙◌, subst, arith, append_assoc, length-append}
use Rattle.std.specs.Prelude.{◌≤ℤ◌, ◌↔◌, int_le, option_map, option_to_list, is_none, IsSome, IsSomeAnd, ◌==◌, ◌⊎◌}
use Rattle.std.specs.List.{flat_map, range_with_len}
use Rattle.std.proofs.lemmas.Bool.{eqb-true, eqb-false, cases_lt}
use Rattle.std.proofs.lemmas.Grind.{flat_map-append}
use Rattle.std.proofs.lemmas.Int.{ints}
use Rattle.std.proofs.lemmas.List.{append-nil}
use Rattle.std.proofs.lemmas.List.Sums.{fold_push}
use Rattle.std.proofs.lemmas.Option.{slice_get_past, slice_get_within}
use Rattle.ilp_terms.specs.Expiry.{last_of_all}
use Rattle.ilp_accounts.specs.Valid.{IsValid}
use Rattle.ilp_journal.specs.declared.entry.Entry.{Entry}
use Rattle.ilp_journal.specs.declared.entry.What.TheVariants as what
use Rattle.ilp_journal.specs.declared.entry.Cause.{Cause}
use Rattle.ilp_journal.specs.declared.entry.Cause.TheVariants.{Late, Restart}
use Rattle.ilp_journal.specs.declared.entry.Hold.{Hold}
use Rattle.ilp_order.specs.Places.{Each}
use Rattle.ilp_journal.specs.Journal.{Entries, AnswersOnce, IsBase, hold_at, answer_of, answered, is_number, is_unanswered, open_hold_at, last_moment}
use Rattle.ilp_journal.proofs.Naming.{hold_at-push}
use Rattle.ilp_journal.proofs.Growth.{open_hold_at-push}
use Rattle.ilp_order.proofs.Sums.{Each-push}
use Rattle.ilp_rules.specs.Book.{PlainBook, pushed, extended, with_entries}
use Rattle.ilp_rules.specs.Carried.{end_of, ended_by_start, ends_of_open}
use Rattle.ilp_rules.specs.Judging.{behind_all}
use Rattle.ilp_rules.specs.Lawful.{IsLawful}
use Rattle.ilp_rules.proofs.Standing.{first_found, open_stands, answers_open}
use Rattle.ilp_rules.proofs.Judging.{comes_before, judged_good}
use Rattle.ilp_rules.proofs.Rules.{answers_once}

-- ---- one end

-- the end of an open hold may come next
pub end_keeps : (book : PlainBook) (m : ℤ) (n : ℕ) (h : Hold) → IsValid book.config → IsLawful book → book.base ≡ behind_all → open_hold_at book.entries n ≡ Some h
    → last_moment book.entries ≤ℤ m → pos 0 ≤ℤ m → m ≤ℤ last_of_all → IsLawful (pushed book (ended_by_start m n h))
end_keeps book m n h valid lawful base is later first last =
    judged_good book (ended_by_start m n h) valid lawful base (record { later = later; first = first; last = last })
    (rw is (of (int_le h.deadline m) refl), λ _. omega (arith, base, comes_before book valid lawful)) tt
  where
    reached : (d : ℤ) → int_le d m ≡ true → d ≤ℤ m
    reached d is = omega (arith, ints)

    missed : (d : ℤ) → int_le d m ≡ false → d ≤ℤ m → ⊥
    missed d is h = omega (arith, ints)

    of : (b : Bool) → int_le h.deadline m ≡ b → (cond b Late Restart ≡ Late) ↔ (h.deadline ≤ℤ m)
    of true is = (λ _. reached h.deadline is, λ _. refl)
    of false is = (λ e. cc, λ r. absurd (missed h.deadline is r))

-- by its moment and its cause, where those are known by equations
pub end_keeps_at : (book : PlainBook) (m m' d' : ℤ) (n : ℕ) (h : Hold) (cause : Cause) (due : Bool) → m' ≡ m → d' ≡ h.deadline → int_le d' m' ≡ due → cause ≡ cond due Late Restart
    → IsLawful (pushed book (ended_by_start m n h)) → IsLawful (pushed book (record { moment = m'; actor = 0; what = what.Released n cause }))
end_keeps_at book m m' d' n h cause due same_m same_d test because lawful =
    let Keeps : ℤ → Cause → Type 0 = λ t c. IsLawful (pushed book (record { moment = t; actor = 0; what = what.Released n c })) in
    let is_due : int_le h.deadline m ≡ due = ap (λ t. int_le h.deadline t) (sym same_m) ∙ (ap (λ d. int_le d m') (sym same_d) ∙ test) in
    subst (λ t. Keeps t cause) (sym same_m) (subst (Keeps m) (ap (λ b. cond b Late Restart) is_due ∙ sym because) lawful)

-- ---- all of them

-- the ends of the holds below the number k
abbrev pub ends_to : ℤ → Entries → ℕ → Entries
ends_to m j k = flat_map (end_of m j) (range_with_len 0 k)

range_more : (a n b : ℕ) → a + n ≡ b → range_with_len a (suc n) ≡ range_with_len a n ++ b ∷ []
range_more a zero b is = ap (λ k. k ∷ []) (omega (arith, is))
range_more a (suc n) b is = ap (λ ks. a ∷ ks) (range_more (a + 1) n b (omega (arith, is)))

-- one more of them
pub ends_more : (m : ℤ) (j : Entries) (k : ℕ) → ends_to m j (k + 1) ≡ ends_to m j k ++ end_of m j k
ends_more m j k =
    let next : k + 1 ≡ suc k = omega arith in
    ap (ends_to m j) next ∙ ap (flat_map (end_of m j)) (range_more 0 k k (omega arith)) ∙ flat_map-append (end_of m j) (range_with_len 0 k) (k ∷ []) ∙ ap (λ es. ends_to m j k ++ es) (append-nil (end_of m j k))

-- the journal in which the open holds of j below the number k have ended
pub record AreEnded (m : ℤ) (j : Entries) (k : ℕ) (now : Entries) : Type 0 where
  pub once : Each AnswersOnce now
  pub longer : length j ≤ length now
  pub gone : (n : ℕ) → n < k → open_hold_at now n ≡ None
  pub left : (n : ℕ) → k ≤ n → n < length j → open_hold_at now n ≡ open_hold_at j n
  pub none : (n : ℕ) → length j ≤ n → hold_at now n ≡ None
  pub later : last_moment j ≤ℤ m → last_moment now ≤ℤ m

-- one more hold ends
end_next : (m : ℤ) (j : Entries) (k : ℕ) (now : Entries) → k < length j → AreEnded m j k now → AreEnded m j (k + 1) (now ++ end_of m j k)
end_next m j k now below ended = of (open_hold_at j k) refl
  where
    between : (n : ℕ) → n < k + 1 → (n == k) ≡ false → n < k
    between n few other = omega (arith, few, eqb-false n k other)

    of : (o : Option Hold) → open_hold_at j k ≡ o → AreEnded m j (k + 1) (now ++ option_to_list (option_map (ended_by_start m k) o))
    of None is = subst (AreEnded m j (k + 1)) (sym (append-nil now)) (record {
      once = ended.once;
      longer = ended.longer;
      gone = λ n few. by_place n few (n == k) refl;
      left = λ n from to. ended.left n (omega (arith, from)) to;
      none = ended.none;
      later = ended.later;
    })
      where
        by_place : (n : ℕ) → n < k + 1 → (b : Bool) → (n == k) ≡ b → open_hold_at now n ≡ None
        by_place n few true same = subst (λ i. open_hold_at now i ≡ None) (sym (eqb-true n k same)) (ended.left k (omega arith) below ∙ is)
        by_place n few false other = ended.gone n (between n few other)
    of (Some h) is = record {
      once = Each-push AnswersOnce now e ended.once last;
      longer = omega (arith, ended.longer, length-append now (e ∷ []));
      gone = λ n few. stood n ∙ by_place n few (n == length now) (n == k) refl;
      left = λ n from to. stood n ∙ still n from to (n == length now) (n == k) refl refl;
      none = λ n past. hold_at-push now e n ∙ neither (n == length now) (hold_at now n) (ended.none n past);
      later = λ _. at_last (last_moment (now ++ e ∷ [])) (fold_push (λ _ (d : Entry). d.moment) (pos 0) now e);
    }
      where
        e : Entry
        e = ended_by_start m k h

        open_now : open_hold_at now k ≡ Some h
        open_now = ended.left k (omega arith) below ∙ is

        last : AnswersOnce now e
        last = let stands = open_stands now k h open_now in answers_open now k h e stands.1 stands.0 refl

        stood : (n : ℕ) → open_hold_at (now ++ e ∷ []) n ≡ cond (n == length now) None (cond (n == k) None (open_hold_at now n))
        stood n = open_hold_at-push now e n ended.once last

        neither : (b : Bool) (o : Option Hold) → o ≡ None → cond b None o ≡ None
        neither true o none = refl
        neither false o none = none

        by_place : (n : ℕ) → n < k + 1 → (a b : Bool) → (n == k) ≡ b → cond a None (cond b None (open_hold_at now n)) ≡ None
        by_place n few true b is = refl
        by_place n few false true is = refl
        by_place n few false false other = ended.gone n (between n few other)

        still : (n : ℕ) → k + 1 ≤ n → n < length j → (a b : Bool) → (n == length now) ≡ a → (n == k) ≡ b → cond a None (cond b None (open_hold_at now n)) ≡ open_hold_at j n
        still n from to true b same is = absurd (omega (arith, eqb-true n (length now) same, to, ended.longer))
        still n from to false true is same = absurd (omega (arith, eqb-true n k same, from))
        still n from to false false is other = ended.left n (omega (arith, from)) to

        at_last : (t : ℤ) → t ≡ m → t ≤ℤ m
        at_last t same = omega (arith, ints)

-- so many have ended, and at last all
pub are_ended : (m : ℤ) (j : Entries) (k : ℕ) → Each AnswersOnce j → k ≤ length j → AreEnded m j k (j ++ ends_to m j k)
are_ended m j zero once few = subst (AreEnded m j 0) (sym (append-nil j)) (record {
  once = once;
  longer = omega arith;
  gone = λ n below. absurd (omega arith);
  left = λ n from to. refl;
  none = λ n past. past_end j n past;
  later = λ before. before;
})
  where
    past_end : (j : Entries) (n : ℕ) → length j ≤ n → hold_at j n ≡ None
    past_end j n past = rw (slice_get_past j n past) refl
are_ended m j (suc k) once few =
    let next : k + 1 ≡ suc k = omega arith in
    subst (λ i. AreEnded m j i (j ++ ends_to m j i)) next
    (subst (AreEnded m j (k + 1)) (append_assoc j (ends_to m j k) (end_of m j k) ∙ ap (λ es. j ++ es) (sym (ends_more m j k)))
    (end_next m j k (j ++ ends_to m j k) (omega (arith, few)) (are_ended m j k once (omega (arith, few)))))

-- ---- a book whose holds end one by one

-- by a moment that isn't before the last entry's
pub ends_later : (book : PlainBook) (m : ℤ) (k : ℕ) (now : PlainBook) → IsLawful book → k ≤ length book.entries → now ≡ extended book (ends_to m book.entries k)
    → last_moment book.entries ≤ℤ m → last_moment now.entries ≤ℤ m
ends_later book m k now lawful few is later =
    subst (λ (b : PlainBook). last_moment b.entries ≤ℤ m) (sym is) ((are_ended m book.entries k (answers_once book lawful) few).later later)

-- one more of them
pub ends_go_on : (book : PlainBook) (m : ℤ) (k : ℕ) (now new : PlainBook) → IsLawful book → k < length book.entries → now ≡ extended book (ends_to m book.entries k)
    → new ≡ extended now (end_of m now.entries k) → new ≡ extended book (ends_to m book.entries (k + 1))
ends_go_on book m k now new lawful below is ends =
    let j = book.entries in
    let left = (are_ended m j k (answers_once book lawful) (omega (arith, below))).left k (omega arith) below in
    let same : end_of m (j ++ ends_to m j k) k ≡ end_of m j k = ap (λ o. option_to_list (option_map (ended_by_start m k) o)) left in
    ends ∙ ap (λ (b : PlainBook). extended b (end_of m b.entries k)) is
    ∙ ap (λ es. with_entries book es) (ap (λ es. (j ++ ends_to m j k) ++ es) same ∙ append_assoc j (ends_to m j k) (end_of m j k) ∙ ap (λ es. j ++ es) (sym (ends_more m j k)))

-- and all of them leave none open
pub all_ended : (m : ℤ) (j : Entries) → Each AnswersOnce j → (n : ℕ) → open_hold_at (j ++ ends_of_open m j) n ≡ None
all_ended m j once n = by_place (cases_lt n (length j))
  where
    ended : AreEnded m j (length j) (j ++ ends_of_open m j)
    ended = are_ended m j (length j) once (omega arith)

    by_place : (n < length j) ⊎ (length j ≤ n) → open_hold_at (j ++ ends_of_open m j) n ≡ None
    by_place (inl below) = ended.gone n below
    by_place (inr past) = rw (ended.none n past) (nothing (is_unanswered (j ++ ends_of_open m j) n))
      where
        nothing : (b : Bool) → ◌≡◌ {A = Option Hold} (cond b None None) None
        nothing true = refl
        nothing false = refl

-- a journal without an open hold ends at a base
pub closed_base : (j : Entries) → ((n : ℕ) → open_hold_at j n ≡ None) → IsBase j (length j)
closed_base j none = record { within = omega arith; answered = λ n below stands. of n (hold_at j n) (answer_of j n) refl stands (none n) }
  where
    place : (n k : ℕ) → answer_of j n ≡ Some k → k < length j
    place n k is =
        let found = first_found (λ _ (e : Entry). is_number n (answered e.what)) 0 k j is in
        omega (arith, found.2, slice_get_within j found.0 found.1 found.3)

    of : (n : ℕ) (h : Option Hold) (o : Option ℕ) → answer_of j n ≡ o → IsSome h → cond (is_none o) h None ≡ None → IsSomeAnd o (λ k. k < length j)
    of n (Some h) None is stands gone = absurd cc
    of n None None is stands gone = absurd cc
    of n h (Some k) is stands gone = place n k is
