-- What was fulfilled since a base at which no hold was open lies within the totals since then.
use Rattle.std.proofs.Common.{◌≡◌, ℕ, zero, suc, ◌+◌, ◌<◌, ◌≤◌, Bool, true, false, cond, List, [], ◌∷◌, ◌++◌, length, take, drop, Option, Some, None, refl, sym, ap, ◌∙◌, subst, append_assoc, append-nil, arith, zero-add, length-append}
use Rattle.std.specs.Prelude.{slice_get, unwrap_or, option_map, option_and_then, is_none, nat_le, sum_by, IsSome, IsSomeAnd, IsNone, IfSome}
use Rattle.std.specs.Option.{option_or}
use Rattle.std.proofs.lemmas.Bool.{le-leb}
use Rattle.std.proofs.lemmas.List.{take-append-drop, length-take-le}
use Rattle.std.proofs.lemmas.List.Sums.{sum_by_push}
use Rattle.ilp_journal.specs.declared.entry.Entry.{Entry}
use Rattle.ilp_journal.specs.declared.entry.What.{What}
use Rattle.ilp_journal.specs.declared.entry.What.TheVariants as what
use Rattle.ilp_journal.specs.declared.entry.Hold.{Hold}
use Rattle.ilp_order.specs.Places.{sum_from, first_from, Each}
use Rattle.ilp_journal.specs.Journal.{Entries, hold_at, as_hold, answered, fulfilled, released, answer_of, is_number, is_unanswered, of_hold, sum_of_holds, AnswersOnce, IsBase}
use Rattle.ilp_journal.specs.TrialBalance.{amount_in, amount_out, of_named, since, total_in, total_out}
use Rattle.ilp_order.proofs.Sums.{by_push, Each-parts, first_from-append}
use Rattle.ilp_journal.proofs.Naming.{hold_at-append}
use Rattle.ilp_journal.proofs.BooksGrowth.{answered_parts, unanswered-push, total_in-push, total_out-push}
use Rattle.ilp_desk.specs.Totals.{sum_of_fulfilled, taken_since, sold_since}

-- ---- places

-- a first place lies no lower than where the places begin
first_from_low : {X : Type 0} (test : ℕ → X → Bool) (n k : ℕ) (xs : List X) → first_from test n xs ≡ Some k → n ≤ k
first_from_low test n k [] is = absurd cc
first_from_low test n k (x ∷ xs) is = by_test (test n x) (first_from_low test (n + 1) k xs) is
  where
    by_test : (b : Bool) → (first_from test (n + 1) xs ≡ Some k → n + 1 ≤ k) → cond b (Some n) (first_from test (n + 1) xs) ≡ Some k → n ≤ k
    by_test true later is = let same : n ≡ k = cc in omega arith
    by_test false later is = omega (arith, later is)

-- the sum is 0 where each element is nothing at its place
sum_from_none : {X : Type 0} (f : ℕ → X → ℕ) (n : ℕ) (xs : List X) → ((k : ℕ) (x : X) → slice_get xs k ≡ Some x → f (n + k) x ≡ 0) → sum_from f n xs ≡ 0
sum_from_none f n [] none = refl
sum_from_none f n (x ∷ xs) none =
    let first : f n x ≡ 0 = subst (λ m. f m x ≡ 0) (omega arith) (none 0 x refl) in
    let rest = sum_from_none f (n + 1) xs (λ k y at. subst (λ m. f m y ≡ 0) (omega arith) (none (suc k) y at)) in
    omega (arith, first, rest)

-- ---- the holds below a base

-- no hold below a base is open where the base is the end
module _ (front rest : Entries) (is : IsBase (front ++ rest) (length front)) where
  below_answered : (n : ℕ) → IsSome (hold_at front n) → n < length front → is_unanswered front n ≡ false
  below_answered n stands below =
      of (answer_of front n) (first_from (λ _ (e : Entry). is_number n (answered e.what)) (length front) rest) (answer_of (front ++ rest) n)
      (first_from-append (λ _ (e : Entry). is_number n (answered e.what)) 0 front rest ∙ ap (λ m. option_or (answer_of front n) (first_from (λ _ (e : Entry). is_number n (answered e.what)) m rest)) (zero-add (length front)))
      (λ k found. first_from_low (λ _ (e : Entry). is_number n (answered e.what)) (length front) k rest found)
      (is.answered n below (subst IsSome (sym (hold_at-append front rest n stands)) stands))
    where
      of : (here later whole : Option ℕ) → whole ≡ option_or here later → ((k : ℕ) → later ≡ Some k → length front ≤ k) → IsSomeAnd whole (λ k. k < length front) → is_none here ≡ false
      of (Some k) later whole same low ended = refl
      of None (Some k) whole same low ended = let lower : k < length front = subst (λ o. IsSomeAnd o (λ m. m < length front)) same ended in absurd (omega (arith, low k refl, lower))
      of None None whole same low ended = absurd (subst (λ o. IsSomeAnd o (λ m. m < length front)) same ended)

  none_open : (f : Hold → ℕ) → sum_of_holds (is_unanswered front) f front ≡ 0
  none_open f = sum_from_none _ 0 front (λ k e at. ended k e at)
    where
      within : (xs : Entries) (k : ℕ) (e : Entry) → slice_get xs k ≡ Some e → k < length xs
      within [] k e at = absurd cc
      within (x ∷ xs) zero e at = omega arith
      within (x ∷ xs) (suc k) e at = omega (arith, within xs k e at)

      by : (k : ℕ) (o : Option Hold) (b : Bool) → (IsSome o → b ≡ false) → cond b (unwrap_or (option_map f o) 0) 0 ≡ 0
      by k None true closed = refl
      by k None false closed = refl
      by k (Some h) b closed = rw (closed refl) refl

      ended : (k : ℕ) (e : Entry) → slice_get front k ≡ Some e → cond (is_unanswered front (0 + k)) (of_hold f e.what) 0 ≡ 0
      ended k e at =
          let same : 0 + k ≡ k = zero-add k in
          let stood : hold_at front k ≡ as_hold e.what = ap (option_and_then (λ (d : Entry). as_hold d.what)) at in
          subst (λ m. cond (is_unanswered front m) (of_hold f e.what) 0 ≡ 0) (sym same)
          (by k (as_hold e.what) (is_unanswered front k) (λ stands. below_answered k (subst IsSome (sym stood) stands) (within front k e at)))

-- ---- what was fulfilled since

-- the hold that an entry fulfills is looked up alike in every longer journal
named_stays : (f : Hold → ℕ) (j more : Entries) (w : What) → IfSome (answered w) (λ n. IsSome (hold_at j n) × IsNone (answer_of j n))
    → of_named (j ++ more) f (fulfilled w) ≡ of_named j f (fulfilled w)
named_stays f j more (what.Hold h) once = refl
named_stays f j more (what.Fulfilled hold preimage) once = ap (λ o. unwrap_or (option_map f o) 0) (hold_at-append j more hold once.0)
named_stays f j more (what.Released hold cause) once = refl
named_stays f j more (what.Credited c) once = refl
named_stays f j more (what.Asked a) once = refl
named_stays f j more (what.Confirmed ask) once = refl
named_stays f j more (what.Undone ask) once = refl
named_stays f j more (what.Opened peer balance) once = refl
named_stays f j more (what.Known c) once = refl
named_stays f j more (what.Pending peer amount key) once = refl

-- what is named since a place is no more than what is named at all
since_less : (f : Hold → ℕ) (base : ℕ) (j : Entries) (o : Option ℕ) → of_named j f (since base o) ≤ of_named j f o
since_less f base j None = omega arith
since_less f base j (Some n) = by (nat_le base n)
  where
    by : (b : Bool) → of_named j f (cond b (Some n) None) ≤ of_named j f (Some n)
    by true = omega arith
    by false = omega arith

-- A total to which a hold brings f of it, and from which a release takes f of a hold that stands since the base
module _ (f : Hold → ℕ) (total : Entries → ℕ) (front : Entries)
    (grows : (j : Entries) (e : Entry) → Each AnswersOnce j → AnswersOnce j e
    → total (j ++ e ∷ []) + of_named j f (since (length front) (released e.what)) ≡ total j + cond (nat_le (length front) (length j)) (of_hold f e.what) 0)
    (none : sum_of_holds (is_unanswered front) f front ≡ 0) where
  -- what the entries of es fulfill, looked up in j
  abbrev paid : Entries → Entries → ℕ
  paid j es = sum_by (λ (e : Entry). of_named j f (fulfilled e.what)) es

  -- what is open counts in the total beside what was fulfilled
  abbrev Keeps : Entries → Type 0
  Keeps more = Each AnswersOnce (front ++ more) → (j rest : Entries) → j ≡ (front ++ more) ++ rest
      → paid j more + sum_of_holds (is_unanswered (front ++ more)) f (front ++ more) ≤ total (front ++ more)

  keeps : (more : Entries) → Keeps more
  keeps = by_push Keeps (λ each j rest is. first) one_more
    where
      first : paid front [] + sum_of_holds (is_unanswered (front ++ [])) f (front ++ []) ≤ total (front ++ [])
      first = omega (arith, subst (λ es. sum_of_holds (is_unanswered es) f es ≡ 0) (sym (append-nil front)) none)

      one_more : (more : Entries) (e : Entry) → Keeps more → Keeps (more ++ e ∷ [])
      one_more more e before each j rest is =
          let old : Entries = front ++ more in
          let same : old ++ e ∷ [] ≡ front ++ (more ++ e ∷ []) = append_assoc front more (e ∷ []) in
          let parts : Each AnswersOnce old × AnswersOnce old e = Each-parts AnswersOnce old e (subst (Each AnswersOnce) (sym same) each) in
          let whole : j ≡ old ++ (e ∷ rest) = is ∙ (ap (λ es. es ++ rest) (sym same) ∙ append_assoc old (e ∷ []) rest) in
          let named : of_named j f (fulfilled e.what) ≡ of_named old f (fulfilled e.what)
          = ap (λ k. of_named k f (fulfilled e.what)) whole ∙ named_stays f old (e ∷ rest) e.what parts.1 in
          let low : nat_le (length front) (length old) ≡ true = le-leb (length front) (length old) (omega (arith, length-append front more)) in
          let brought : cond (nat_le (length front) (length old)) (of_hold f e.what) 0 ≡ of_hold f e.what = ap (λ b. cond b (of_hold f e.what) 0) low in
          subst (λ es. paid j (more ++ e ∷ []) + sum_of_holds (is_unanswered es) f es ≤ total es) same
          (omega (
            arith,
            sum_by_push (λ (d : Entry). of_named j f (fulfilled d.what)) more e,
            before parts.0 j (e ∷ rest) whole,
            unanswered-push f old e parts.0 parts.1,
            answered_parts old f e.what,
            since_less f (length front) old (released e.what),
            grows old e parts.0 parts.1,
            named,
            brought,
          ))

-- ---- the whole

module _ (base : ℕ) (j : Entries) (each : Each AnswersOnce j) (is : IsBase j base) where
  whole : take base j ++ drop base j ≡ j
  whole = take-append-drop base j

  at_base : length (take base j) ≡ base
  at_base = length-take-le base j is.within

  opened : IsBase (take base j ++ drop base j) (length (take base j))
  opened = subst (λ n. IsBase (take base j ++ drop base j) n) (sym at_base) (subst (λ es. IsBase es base) (sym whole) is)

  within_total : (f : Hold → ℕ) (total : Entries → ℕ)
      → ((k : Entries) (e : Entry) → Each AnswersOnce k → AnswersOnce k e
      → total (k ++ e ∷ []) + of_named k f (since base (released e.what)) ≡ total k + cond (nat_le base (length k)) (of_hold f e.what) 0)
      → sum_of_fulfilled f base j ≤ total j
  within_total f total grows =
      let front : Entries = take base j in
      let kept = keeps f total front (λ k e once last. subst (λ n. total (k ++ e ∷ []) + of_named k f (since n (released e.what)) ≡ total k + cond (nat_le n (length k)) (of_hold f e.what) 0) (sym at_base) (grows k e once last))
      (none_open front (drop base j) opened f) (drop base j) (subst (Each AnswersOnce) (sym whole) each) j [] (sym (append-nil (front ++ drop base j) ∙ whole)) in
      omega (arith, kept, ap total whole)

  -- what was taken of an asset since the base is no more than the total in
  pub taken_within : (assets : List ℕ) (x : ℕ) → taken_since assets base j x ≤ total_in assets base j x
  taken_within assets x = within_total (amount_in assets x) (λ k. total_in assets base k x) (λ k e once last. total_in-push assets k e x base once last)

  -- what was sold of it is no more than the total out
  pub sold_within : (assets : List ℕ) (x : ℕ) → sold_since assets base j x ≤ total_out assets base j x
  sold_within assets x = within_total (amount_out assets x) (λ k. total_out assets base k x) (λ k e once last. total_out-push assets k e x base once last)
