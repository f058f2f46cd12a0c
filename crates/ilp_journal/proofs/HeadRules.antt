-- A head keeps the rules of heads, where the journal that it is brought forward from keeps those of its keys and settlements.
use Rattle.std.proofs.Common.{◌≡◌, ℕ, zero, suc, ◌+◌, ◌<◌, ◌≤◌, ℤ, pos, negsuc, unsigned_abs, Bool, true, false, cond, ◌&&◌, List, [], ◌∷◌, ◌++◌, map, length, Option, Some, None, refl, sym, ap, ◌∙◌, subst, arith, zero-add, add-zero, append-nil, append_assoc, IfSome, IsSome, IsNone, is_some, sum_by, unwrap_or, option_map, option_and_then, slice_get, ◌==◌}
use Rattle.std.specs.List.{cons_option}
use Rattle.std.specs.Str.{bytes_eq}
use Rattle.std.proofs.lemmas.Bool.{eqb-true, eq-eqb, ne_eqb}
use Rattle.std.proofs.lemmas.List.{map-append, length-append}
use Rattle.std.proofs.lemmas.List.Sums.{sum_by-cons, sum_by-append}
use Rattle.ilp_journal.specs.declared.entry.Entry.{Entry}
use Rattle.ilp_journal.specs.declared.entry.What.{What}
use Rattle.ilp_journal.specs.declared.entry.What.TheVariants as what
use Rattle.ilp_journal.specs.declared.entry.Ask.{Ask}
use Rattle.ilp_journal.specs.declared.entry.Credited.{Credited}
use Rattle.ilp_order.specs.Places.{sum_from, first_from, EachAfter, Each}
use Rattle.ilp_journal.specs.Made.{filter_map_from}
use Rattle.ilp_journal.specs.Journal.{Entries, as_ask, is_number, is_unclosed, of_ask, paid_to, open_asks}
use Rattle.ilp_journal.specs.Credits.{as_credit, has_key, kept_at}
use Rattle.ilp_journal.specs.BroughtForward.{EarlierPlaces, PeriodEnd, next_place, head_entry, earlier_balance, opening_of, balances_brought_forward, credited_to, credits_brought_forward, settlement_key, settlements_brought_forward, brought_forward, opened_peer, opening_at, HasFreshKey, KeepsHeadRule}
use Rattle.ilp_order.proofs.Sums.{by_push, Each-push, Each-parts, Each-each, sum_from-le, sum_from-same, sum_from-zero, sum_from_push}
use Rattle.ilp_journal.proofs.Made.{sum_by-made, sum_by-map, Every, every-append, every-map, every-made, first_from-every_none}
use Rattle.ilp_journal.proofs.Heads.{opened_at, known_at, pending_at, next_stands, next_is}

-- ---- what holds of each that is made

-- one more element may make one more thing
pub made-push : {X Y : Type 0} (f : ℕ → X → Option Y) (n : ℕ) (xs : List X) (x : X)
    → filter_map_from f n (xs ++ x ∷ []) ≡ filter_map_from f n xs ++ cons_option (f (n + length xs) x) []
made-push f n [] x = rw (add-zero n) refl
made-push {X} {Y} f n (y ∷ ys) x =
    let e : (n + 1) + length ys ≡ n + suc (length ys) = omega arith in
    ap (cons_option (f n y)) (made-push f (n + 1) ys x ∙ ap (λ k. filter_map_from f (n + 1) ys ++ cons_option (f k x) []) e)
    ∙ first (f n y) (filter_map_from f (n + 1) ys) (cons_option (f (n + suc (length ys)) x) [])
  where
    first : (o : Option Y) (front back : List Y) → cons_option o (front ++ back) ≡ cons_option o front ++ back
    first None front back = refl
    first (Some z) front back = refl

-- P holds of each that is made and those before it, if it does of what each element makes
pub each_made : {X Y : Type 0} (P : List Y → Y → Type 0) (f : ℕ → X → Option Y) (front : List Y) → Each P front → (xs : List X)
    → Each (λ done x. IfSome (f (length done) x) (P (front ++ filter_map_from f 0 done))) xs → Each P (front ++ filter_map_from f 0 xs)
each_made {X} {Y} P f front whole =
    by_push (λ xs. Each Makes xs → Each P (front ++ filter_map_from f 0 xs)) (λ _. subst (Each P) (sym (append-nil front)) whole) one_more
  where
    Makes : List X → X → Type 0
    Makes done x = IfSome (f (length done) x) (P (front ++ filter_map_from f 0 done))

    more : (made : List Y) (o : Option Y) → Each P (front ++ made) → IfSome o (P (front ++ made)) → Each P (front ++ (made ++ cons_option o []))
    more made None each p = subst (λ l. Each P (front ++ l)) (sym (append-nil made)) each
    more made (Some y) each p = subst (Each P) (append_assoc front made (y ∷ [])) (Each-push P (front ++ made) y each p)

    one_more : (xs : List X) (x : X) → (Each Makes xs → Each P (front ++ filter_map_from f 0 xs)) → Each Makes (xs ++ x ∷ [])
        → Each P (front ++ filter_map_from f 0 (xs ++ x ∷ []))
    one_more xs x before each =
        let parts : Each Makes xs × Makes xs x = Each-parts Makes xs x each in
        subst (λ l. Each P (front ++ l)) (sym (made-push f 0 xs x ∙ ap (λ k. filter_map_from f 0 xs ++ cons_option (f k x) []) (zero-add (length xs))))
        (more (filter_map_from f 0 xs) (f (length xs) x) (before parts.0) parts.1)

-- the same over mapped elements
pub each_map : {X Y : Type 0} (P : List Y → Y → Type 0) (h : X → Y) (before xs : List X) → EachAfter (λ b x. P (map h b) (h x)) before xs
    → EachAfter P (map h before) (map h xs)
each_map P h before [] each = tt
each_map P h before (x ∷ xs) each =
    (each.0, subst (λ l. EachAfter P l (map h xs)) (map-append h before (x ∷ [])) (each_map P h (before ++ x ∷ []) xs each.1))

-- each element has fewer before it than there are
each_within : {X : Type 0} (xs : List X) → Each (λ done (_ : X). length done < length xs) xs
each_within {X} = by_push (λ xs. Each (λ done (_ : X). length done < length xs) xs) tt one_more
  where
    one_more : (xs : List X) (x : X) → Each (λ done (_ : X). length done < length xs) xs → Each (λ done (_ : X). length done < length (xs ++ x ∷ [])) (xs ++ x ∷ [])
    one_more xs x each =
        Each-push (λ done (_ : X). length done < length (xs ++ x ∷ [])) xs x
        (Each-each (λ done (_ : X). length done < length xs) (λ done (_ : X). length done < length (xs ++ x ∷ [])) xs
        (λ done y less. omega (arith, length-append xs (x ∷ []))) each)
        (omega (arith, length-append xs (x ∷ [])))

-- sums as far as an element, with its own, are no greater than the whole
each_partial : {X : Type 0} (g : ℕ → ℕ → X → ℕ) (xs : List X)
    → Each (λ done x. (p : ℕ) → sum_from (g p) 0 done + g p (length done) x ≤ sum_from (g p) 0 xs) xs
each_partial {X} g = by_push (λ xs. Each (Within xs) xs) tt one_more
  where
    Within : List X → List X → X → Type 0
    Within xs done x = (p : ℕ) → sum_from (g p) 0 done + g p (length done) x ≤ sum_from (g p) 0 xs

    whole : (xs : List X) (x : X) (p : ℕ) → sum_from (g p) 0 (xs ++ x ∷ []) ≡ sum_from (g p) 0 xs + g p (length xs) x
    whole xs x p = sum_from_push (g p) 0 xs x ∙ ap (λ k. sum_from (g p) 0 xs + g p k x) (zero-add (length xs))

    one_more : (xs : List X) (x : X) → Each (Within xs) xs → Each (Within (xs ++ x ∷ [])) (xs ++ x ∷ [])
    one_more xs x each =
        Each-push (Within (xs ++ x ∷ [])) xs x
        (Each-each (Within xs) (Within (xs ++ x ∷ [])) xs (λ done y less p. omega (arith, less p, whole xs x p)) each)
        (λ p. omega (arith, whole xs x p))

-- each that is made of a place below n
every_below : {X Y : Type 0} (P : Y → Type 0) (f : ℕ → X → Option Y) (n : ℕ) (xs : List X) → ((k : ℕ) (x : X) → k < n + length xs → IfSome (f k x) P)
    → Every P (filter_map_from f n xs)
every_below P f n [] of = tt
every_below {X} {Y} P f n (x ∷ xs) of =
    first (f n x) (filter_map_from f (n + 1) xs) (of n x (omega arith)) (every_below P f (n + 1) xs (λ k y less. of k y (omega (arith, less))))
  where
    first : (o : Option Y) (rest : List Y) → IfSome o P → Every P rest → Every P (cons_option o rest)
    first None rest p q = q
    first (Some y) rest p q = (p, q)

-- each that is made of an element with Q
every_of : {X Y : Type 0} (Q : X → Type 0) (P : Y → Type 0) (f : ℕ → X → Option Y) (n : ℕ) (xs : List X) → ((k : ℕ) (x : X) → Q x → IfSome (f k x) P)
    → Every Q xs → Every P (filter_map_from f n xs)
every_of Q P f n [] of each = tt
every_of {X} {Y} Q P f n (x ∷ xs) of each = first (f n x) (filter_map_from f (n + 1) xs) (of n x each.0) (every_of Q P f (n + 1) xs of each.1)
  where
    first : (o : Option Y) (rest : List Y) → IfSome o P → Every P rest → Every P (cons_option o rest)
    first None rest p q = q
    first (Some y) rest p q = (p, q)

-- where no element passes each fails
none_passes : {X : Type 0} (test : X → Bool) (n : ℕ) (xs : List X) → IsNone (first_from (λ _ x. test x) n xs) → Every (λ x. test x ≡ false) xs
none_passes test n [] none = tt
none_passes {X} test n (x ∷ xs) none = at (test x) refl none (none_passes test (n + 1) xs)
  where
    at : (b : Bool) → test x ≡ b → IsNone (cond b (Some n) (first_from (λ _ y. test y) (n + 1) xs))
        → (IsNone (first_from (λ _ y. test y) (n + 1) xs) → Every (λ y. test y ≡ false) xs) → (test x ≡ false) × Every (λ y. test y ≡ false) xs
    at true e none rest = cc
    at false e none rest = (e, rest none)

-- a sum that forgets places
sum_from-plain : {X : Type 0} (f : X → ℕ) (n : ℕ) (xs : List X) → sum_from (λ _ x. f x) n xs ≡ sum_by f xs
sum_from-plain f n [] = refl
sum_from-plain f n (x ∷ xs) = ap (λ s. f x + s) (sum_from-plain f (n + 1) xs) ∙ sym (sum_by-cons f x xs)

-- ---- the rules

-- the open settlements, as a sum over entries
open_asks_is : (j : Entries) (p : ℕ) → open_asks j p ≡ sum_from (λ n (e : Entry). cond (is_unclosed j n) (of_ask (paid_to p) e.what) 0) 0 j
unfolding open_asks
open_asks_is j p = refl

module _ (count most : ℕ) (end : PeriodEnd) (j : Entries) (few : length end.places ≤ count) where
  -- the rule of what is brought forward behind others
  abbrev Rule : List What → What → Type 0
  Rule before w = KeepsHeadRule count most (map (head_entry end.moment) before) w

  known_peer : (p q : ℕ) → next_place end.places p ≡ Some q → q < count
  known_peer p q h = omega (arith, few, slice_get_within end.places q (ap is_some (next_stands end.places p q h)))
    where
      slice_get_within : (places : EarlierPlaces) (n : ℕ) → IsSome (slice_get places n) → n < length places
      slice_get_within [] n h = cc
      slice_get_within (old ∷ places) zero h = omega arith
      slice_get_within (old ∷ places) (suc n) h = omega (arith, slice_get_within places n h)

  -- balances are opened once, and none of 0
  openings : Each Rule (balances_brought_forward end.places j)
  openings =
      each_made Rule (opened_at j) [] tt end.places
      (Each-each (λ done (_ : Option ℕ). length done < length end.places) _ end.places (λ done old within. opening done (earlier_balance j old) within) (each_within end.places))
    where
      earlier : (done : EarlierPlaces) → IsNone (opening_at (map (head_entry end.moment) (filter_map_from (opened_at j) 0 done)) (length done))
      earlier done =
          ap is_some (first_from-every_none (λ _ (e : Entry). is_number (length done) (opened_peer e.what)) 0 _
          (every-map (λ (e : Entry). ℕ → is_number (length done) (opened_peer e.what) ≡ false) (head_entry end.moment) (filter_map_from (opened_at j) 0 done)
          (every_below (λ w. ℕ → is_number (length done) (opened_peer w) ≡ false) (opened_at j) 0 done (λ k old less. other k (earlier_balance j old) less))))
        where
          other : (k : ℕ) (b : ℤ) → k < 0 + length done → IfSome (opening_of k b) (λ w. ℕ → is_number (length done) (opened_peer w) ≡ false)
          other k (pos zero) less = tt
          other k (pos (suc n)) less = λ _. ne_eqb (length done) k (λ e. omega arith)
          other k (negsuc n) less = λ _. ne_eqb (length done) k (λ e. omega arith)

      opening : (done : EarlierPlaces) (b : ℤ) → length done < length end.places → IfSome (opening_of (length done) b) (Rule ([] ++ filter_map_from (opened_at j) 0 done))
      opening done (pos zero) within = tt
      opening done (pos (suc n)) within = (omega (arith, few), λ e. cc (ap unsigned_abs e), earlier done)
      opening done (negsuc n) within = (omega (arith, few), λ e. cc (ap unsigned_abs e), earlier done)

  -- keys are known once
  keys : Each HasFreshKey j → Each Rule (balances_brought_forward end.places j ++ credits_brought_forward end.places j)
  keys apart =
      each_made Rule (known_at end.places) (balances_brought_forward end.places j) openings j
      (Each-each HasFreshKey _ j (λ done e fresh. credit done (as_credit e.what) fresh) apart)
    where
      no_key : (q : ℕ) (key : List ℕ) (k : ℕ) (b : ℤ) → IfSome (opening_of k b) (λ w. ℕ → has_key q key w ≡ false)
      no_key q key k (pos zero) = tt
      no_key q key k (pos (suc n)) = λ _. refl
      no_key q key k (negsuc n) = λ _. refl

      other : (p q : ℕ) (key : List ℕ) → next_place end.places p ≡ Some q → (o : Option Credited)
          → unwrap_or (option_map (λ (c : Credited). (c.peer == p) && bytes_eq c.key key) o) false ≡ false
          → IfSome (option_and_then (λ (c : Credited). option_map (λ r. what.Known (credited_to r c)) (next_place end.places c.peer)) o) (λ w. ℕ → has_key q key w ≡ false)
      other p q key h None differs = tt
      other p q key h (Some c) differs = placed (next_place end.places c.peer) (next_is end.places p q c.peer h)
        where
          by_test : (r : ℕ) (b : Bool) → (q == r) ≡ b → b ≡ (c.peer == p) → ((r == q) && bytes_eq c.key key) ≡ false
          by_test r true is same = rw (eq-eqb r q (sym (eqb-true q r is))) (ap (λ b. b && bytes_eq c.key key) same ∙ differs)
          by_test r false is same = rw (ne_eqb r q (λ e. cc (eq-eqb q r (sym e)))) refl

          placed : (o : Option ℕ) → is_number q o ≡ (c.peer == p) → IfSome (option_map (λ r. what.Known (credited_to r c)) o) (λ w. ℕ → has_key q key w ≡ false)
          placed None same = tt
          placed (Some r) same = λ _. by_test r (q == r) refl same

      fresh_still : (done : Entries) (p q : ℕ) (key : List ℕ) → next_place end.places p ≡ Some q → IsNone (kept_at done p key)
          → IsNone (kept_at (map (head_entry end.moment) (balances_brought_forward end.places j ++ filter_map_from (known_at end.places) 0 done)) q key)
      fresh_still done p q key h none =
          ap is_some (first_from-every_none (λ _ (e : Entry). has_key q key e.what) 0 _
          (every-map (λ (e : Entry). ℕ → has_key q key e.what ≡ false) (head_entry end.moment) (balances_brought_forward end.places j ++ filter_map_from (known_at end.places) 0 done)
          (every-append (λ w. ℕ → has_key q key w ≡ false) (balances_brought_forward end.places j) (filter_map_from (known_at end.places) 0 done)
          (every-made (λ w. ℕ → has_key q key w ≡ false) (opened_at j) 0 end.places (λ k old. no_key q key k (earlier_balance j old)))
          (every_of (λ (e : Entry). has_key p key e.what ≡ false) (λ w. ℕ → has_key q key w ≡ false) (known_at end.places) 0 done
          (λ k e differs. other p q key h (as_credit e.what) differs)
          (none_passes (λ (e : Entry). has_key p key e.what) 0 done none)))))

      credit : (done : Entries) (o : Option Credited) → IfSome o (λ (c : Credited). IsNone (kept_at done c.peer c.key))
          → IfSome (option_and_then (λ (c : Credited). option_map (λ q. what.Known (credited_to q c)) (next_place end.places c.peer)) o)
          (Rule (balances_brought_forward end.places j ++ filter_map_from (known_at end.places) 0 done))
      credit done None fresh = tt
      credit done (Some c) fresh = placed (next_place end.places c.peer) refl
        where
          placed : (o : Option ℕ) → next_place end.places c.peer ≡ o
              → IfSome (option_map (λ q. what.Known (credited_to q c)) o) (Rule (balances_brought_forward end.places j ++ filter_map_from (known_at end.places) 0 done))
          placed None e = tt
          placed (Some q) e = (known_peer c.peer q e, fresh_still done c.peer q c.key e fresh)

  -- what was brought forward before the settlements
  abbrev front : List What
  front = balances_brought_forward end.places j ++ credits_brought_forward end.places j

  -- no more settlements are open in a head than are in the journal as far as that
  none_more : (done : Entries) (p q : ℕ) → next_place end.places p ≡ Some q
      → open_asks (map (head_entry end.moment) (front ++ filter_map_from (pending_at end j) 0 done)) q
      ≤ sum_from (λ n (e : Entry). cond (is_unclosed j n) (of_ask (paid_to p) e.what) 0) 0 done
  unfolding open_asks
  none_more done p q h =
      let head : Entries = map (head_entry end.moment) (front ++ filter_map_from (pending_at end j) 0 done) in
      let all : sum_from (λ n (e : Entry). cond (is_unclosed head n) (of_ask (paid_to q) e.what) 0) 0 head ≤ sum_from (λ _ (e : Entry). of_ask (paid_to q) e.what) 0 head
      = sum_from-le _ _ 0 head (λ n e. fewer (is_unclosed head n) (of_ask (paid_to q) e.what)) in
      let plain : sum_from (λ _ (e : Entry). of_ask (paid_to q) e.what) 0 head ≡ sum_by (λ w. of_ask (paid_to q) w) (front ++ filter_map_from (pending_at end j) 0 done)
      = sum_from-plain (λ (e : Entry). of_ask (paid_to q) e.what) 0 head ∙ sum_by-map (λ (e : Entry). of_ask (paid_to q) e.what) (head_entry end.moment) (front ++ filter_map_from (pending_at end j) 0 done) in
      let ones : sum_by (λ w. of_ask (paid_to q) w) (balances_brought_forward end.places j) ≡ 0
      = sum_by-made (λ w. of_ask (paid_to q) w) (opened_at j) 0 end.places
      ∙ sum_from-zero (λ k old. unwrap_or (option_map (λ w. of_ask (paid_to q) w) (opened_at j k old)) 0) 0 end.places (λ k old low. balances k (earlier_balance j old)) in
      let twos : sum_by (λ w. of_ask (paid_to q) w) (credits_brought_forward end.places j) ≡ 0
      = sum_by-made (λ w. of_ask (paid_to q) w) (known_at end.places) 0 j
      ∙ sum_from-zero (λ n e. unwrap_or (option_map (λ w. of_ask (paid_to q) w) (known_at end.places n e)) 0) 0 j (λ n e low. credits (as_credit e.what)) in
      let threes : sum_by (λ w. of_ask (paid_to q) w) (filter_map_from (pending_at end j) 0 done) ≡ sum_from (λ n (e : Entry). cond (is_unclosed j n) (of_ask (paid_to p) e.what) 0) 0 done
      = sum_by-made (λ w. of_ask (paid_to q) w) (pending_at end j) 0 done
      ∙ sum_from-same _ (λ n (e : Entry). cond (is_unclosed j n) (of_ask (paid_to p) e.what) 0) 0 done (λ n e. counted n e.what (is_unclosed j n) (as_ask e.what)) in
      omega (
        arith,
        all,
        plain,
        sum_by-append (λ w. of_ask (paid_to q) w) front (filter_map_from (pending_at end j) 0 done),
        sum_by-append (λ w. of_ask (paid_to q) w) (balances_brought_forward end.places j) (credits_brought_forward end.places j),
        ones,
        twos,
        threes,
      )
    where
      fewer : (b : Bool) (x : ℕ) → cond b x 0 ≤ x
      fewer true x = omega arith
      fewer false x = omega arith

      balances : (k : ℕ) (b : ℤ) → unwrap_or (option_map (λ w. of_ask (paid_to q) w) (opening_of k b)) 0 ≡ 0
      balances k (pos zero) = refl
      balances k (pos (suc n)) = refl
      balances k (negsuc n) = refl

      placed : (c : Credited) (o : Option ℕ) → unwrap_or (option_map (λ w. of_ask (paid_to q) w) (option_map (λ r. what.Known (credited_to r c)) o)) 0 ≡ 0
      placed c None = refl
      placed c (Some r) = refl

      credits : (o : Option Credited)
          → unwrap_or (option_map (λ w. of_ask (paid_to q) w) (option_and_then (λ (c : Credited). option_map (λ r. what.Known (credited_to r c)) (next_place end.places c.peer)) o)) 0 ≡ 0
      credits None = refl
      credits (Some c) = placed c (next_place end.places c.peer)

      one : (a : Ask) (key : List ℕ) (o : Option ℕ) (b : Bool) → is_number q o ≡ b
          → unwrap_or (option_map (λ w. of_ask (paid_to q) w) (option_map (λ r. what.Pending r a.amount key) o)) 0 ≡ cond b 1 0
      one a key None true e = cc
      one a key None false e = refl
      one a key (Some r) true e = rw (eq-eqb r q (sym (eqb-true q r e))) refl
      one a key (Some r) false e = rw (ne_eqb r q (λ same. cc (eq-eqb q r (sym same)))) refl

      counted : (n : ℕ) (w : What) (b : Bool) (o : Option Ask)
          → unwrap_or (option_map (λ w. of_ask (paid_to q) w) (cond b (option_and_then (λ (a : Ask). option_map (λ r. what.Pending r a.amount (settlement_key end.key_of n w)) (next_place end.places a.peer)) o) None)) 0
          ≡ cond b (unwrap_or (option_map (paid_to p) o) 0) 0
      counted n w false o = refl
      counted n w true None = refl
      counted n w true (Some a) = one a (settlement_key end.key_of n w) (next_place end.places a.peer) (a.peer == p) (next_is end.places p q a.peer h)

  -- the settlements that are open to a peer among some entries
  abbrev open_among : ℕ → ℕ → Entry → ℕ
  open_among p n e = cond (is_unclosed j n) (of_ask (paid_to p) e.what) 0

  -- no more settlements are open to a peer than may be
  settlements : Each HasFreshKey j → ((p : ℕ) → open_asks j p ≤ most) → Each Rule (front ++ settlements_brought_forward end j)
  settlements apart within =
      each_made Rule (pending_at end j) front (keys apart) j
      (Each-each (λ done (e : Entry). (p : ℕ) → sum_from (open_among p) 0 done + open_among p (length done) e ≤ sum_from (open_among p) 0 j) _ j
      (λ done e less. ask done e.what (is_unclosed j (length done)) (as_ask e.what) less) (each_partial open_among j))
    where
      ask : (done : Entries) (w : What) (b : Bool) (o : Option Ask)
          → ((p : ℕ) → sum_from (open_among p) 0 done + cond b (unwrap_or (option_map (paid_to p) o) 0) 0 ≤ sum_from (open_among p) 0 j)
          → IfSome (cond b (option_and_then (λ (a : Ask). option_map (λ r. what.Pending r a.amount (settlement_key end.key_of (length done) w)) (next_place end.places a.peer)) o) None)
          (Rule (front ++ filter_map_from (pending_at end j) 0 done))
      ask done w false o less = tt
      ask done w true None less = tt
      ask done w true (Some a) less = placed (next_place end.places a.peer) refl
        where
          one : paid_to a.peer a ≡ 1
          one = rw (eq-eqb a.peer a.peer refl) refl

          placed : (o : Option ℕ) → next_place end.places a.peer ≡ o
              → IfSome (option_map (λ r. what.Pending r a.amount (settlement_key end.key_of (length done) w)) o) (Rule (front ++ filter_map_from (pending_at end j) 0 done))
          placed None e = tt
          placed (Some q) e = (known_peer a.peer q e, omega (arith, none_more done a.peer q e, less a.peer, one, within a.peer, open_asks_is j a.peer))

  -- a head keeps the rules of heads
  pub head_keeps : Each HasFreshKey j → ((p : ℕ) → open_asks j p ≤ most) → Each (λ before (e : Entry). KeepsHeadRule count most before e.what) (brought_forward end j)
  unfolding brought_forward
  head_keeps apart within =
      each_map (λ before (e : Entry). KeepsHeadRule count most before e.what) (head_entry end.moment) [] _
      (subst (Each Rule) (append_assoc (balances_brought_forward end.places j) (credits_brought_forward end.places j) (settlements_brought_forward end j)) (settlements apart within))
