-- What the head of a period is made of: three kinds of entry, none of which names another.
use Rattle.std.proofs.Common.{◌≡◌, ℕ, zero, suc, ◌+◌, ℤ, pos, negsuc, ◌-ℤ◌, Bool, true, false, cond, ◌&&◌, List, [], ◌∷◌, ◌++◌, Option, Some, None, refl, sym, ap, ap₂, ◌∙◌, subst, arith, zero-add, IfSome, IsSome, sum_by, filter_map, unwrap_or, option_map, option_and_then, slice_get, ◌==◌, is_none}
use Rattle.std.specs.Option.{option_or}
use Rattle.std.specs.Str.{bytes_eq}
use Rattle.std.proofs.lemmas.Bool.{eq-eqb, ne_eqb, eqb-true, eqb-false}
use Rattle.std.proofs.lemmas.Int.{ints}
use Rattle.std.proofs.lemmas.List.Sums.{sum_by-append}
use Rattle.std.proofs.lemmas.List.Elements.{filter_map-append}
use Rattle.ilp_journal.specs.declared.entry.Entry.{Entry}
use Rattle.ilp_journal.specs.declared.entry.What.{What}
use Rattle.ilp_journal.specs.declared.entry.What.TheVariants as what
use Rattle.ilp_journal.specs.declared.entry.Ask.{Ask}
use Rattle.ilp_journal.specs.declared.entry.Credited.{Credited}
use Rattle.ilp_order.specs.Places.{sum_from, first_from, Each}
use Rattle.ilp_journal.specs.Made.{filter_map_from}
use Rattle.ilp_journal.specs.Journal.{Entries, as_ask, answered, closed, is_number, is_unclosed, AnswersOnce, ClosesOnce}
use Rattle.ilp_journal.specs.Balance.{above, below, rise, fall, balance}
use Rattle.ilp_journal.specs.Credits.{as_credit, has_key, kept_credit}
use Rattle.ilp_journal.specs.BroughtForward.{EarlierPlaces, PeriodEnd, next_place, earlier_place, head_entry, earlier_balance, opening_of, balances_brought_forward, credited_to, known_credit, credits_brought_forward, settlement_key, pending_settlement, settlements_brought_forward, brought_forward, settlement_to, open_settlements}
use Rattle.ilp_order.proofs.Sums.{sum_from-same, sum_from-zero, sum_from_one}
use Rattle.ilp_journal.proofs.Made.{made-same, made-none, sum_by-made, sum_by-map, filter_map-made, filter_map-map, first_some, first_some-append, first_some-map, first_some-made, first_some-none, first_some-after, first_from_is, Every, every-append, every-map, every-made, each-every, first_from-every_none, made-every_same}

-- ---- places

next_found : (p s q : ℕ) (places : EarlierPlaces) → first_from (λ _ (old : Option ℕ). is_number p old) s places ≡ Some q
    → (i : ℕ) × (q ≡ s + i) × (slice_get places i ≡ Some (Some p))
next_found p s q [] h = cc
next_found p s q (old ∷ places) h = by_test (is_number p old) refl (next_found p (s + 1) q places) h
  where
    named : (o : Option ℕ) → is_number p o ≡ true → Some o ≡ Some (Some p)
    named None e = cc
    named (Some r) e = ap (λ k. Some (Some k)) (sym (eqb-true p r e))

    by_test : (b : Bool) → is_number p old ≡ b
        → (first_from (λ _ (old : Option ℕ). is_number p old) (s + 1) places ≡ Some q → (i : ℕ) × (q ≡ s + 1 + i) × (slice_get places i ≡ Some (Some p)))
        → cond b (Some s) (first_from (λ _ (old : Option ℕ). is_number p old) (s + 1) places) ≡ Some q
        → (i : ℕ) × (q ≡ s + i) × (slice_get (old ∷ places) i ≡ Some (Some p))
    by_test true here later h = let same : s ≡ q = cc in (0, omega arith, named old here)
    by_test false here later h =
        let rest : (i : ℕ) × (q ≡ s + 1 + i) × (slice_get places i ≡ Some (Some p)) = later h in (suc rest.0, omega (arith, rest.1), rest.2)

-- a peer that has a place in the next period stands there
pub next_stands : (places : EarlierPlaces) (p q : ℕ) → next_place places p ≡ Some q → slice_get places q ≡ Some (Some p)
next_stands places p q h =
    let found : (i : ℕ) × (q ≡ 0 + i) × (slice_get places i ≡ Some (Some p)) = next_found p 0 q places h in
    let P : ℕ → Type 0 = λ i. slice_get places i ≡ Some (Some p) in subst P (sym (found.1 ∙ zero-add found.0)) found.2

-- whatever has the place q in the next period is the peer p
pub next_is : (places : EarlierPlaces) (p q r : ℕ) → next_place places p ≡ Some q → is_number q (next_place places r) ≡ (r == p)
next_is places p q r h = by_place (next_place places r) refl (r == p) refl
  where
    by_place : (o : Option ℕ) → next_place places r ≡ o → (b : Bool) → (r == p) ≡ b → is_number q o ≡ b
    by_place None e true is = let same : next_place places p ≡ None = subst (λ k. next_place places k ≡ None) (eqb-true r p is) e in cc
    by_place None e false is = refl
    by_place (Some k) e true is =
        let same : next_place places p ≡ Some k = subst (λ m. next_place places m ≡ Some k) (eqb-true r p is) e in
        let equal : q ≡ k = cc in eq-eqb q k equal
    by_place (Some k) e false is = ne_eqb q k (λ same. eqb-false r p is (only same))
      where
        only : q ≡ k → r ≡ p
        only same =
            let one : slice_get places q ≡ Some (Some p) = next_stands places p q h in
            let two : slice_get places q ≡ Some (Some r) = subst (λ m. slice_get places m ≡ Some (Some r)) (sym same) (next_stands places r k e) in
            cc

-- nothing has a place that was nobody's
pub next_is_none : (places : EarlierPlaces) (q r : ℕ) → earlier_place places q ≡ None → is_number q (next_place places r) ≡ false
next_is_none places q r none = by_place (next_place places r) refl
  where
    by_place : (o : Option ℕ) → next_place places r ≡ o → is_number q o ≡ false
    by_place None e = refl
    by_place (Some k) e = ne_eqb q k (λ same.
        let P : ℕ → Type 0 = λ m. slice_get places m ≡ Some (Some r) in
        let stands : slice_get places q ≡ Some (Some r) = subst P (sym same) (next_stands places r k e) in
        let was : earlier_place places q ≡ Some r = ap (option_and_then (λ (old : Option ℕ). old)) stands in
        cc)

-- ---- the kinds of entry in a head

-- what is brought forward of a place, and of an entry
abbrev pub opened_at : Entries → ℕ → Option ℕ → Option What
opened_at j q old = opening_of q (earlier_balance j old)

abbrev pub known_at : EarlierPlaces → ℕ → Entry → Option What
known_at places n e = known_credit places e.what

abbrev pub pending_at : PeriodEnd → Entries → ℕ → Entry → Option What
pending_at end j n e = cond (is_unclosed j n) (pending_settlement end n e.what) None

-- all that is brought forward
abbrev handed_on : PeriodEnd → Entries → List What
handed_on end j = balances_brought_forward end.places j ++ (credits_brought_forward end.places j ++ settlements_brought_forward end j)

-- what holds of the three kinds holds of each entry of a head
pub every_brought_forward : (P : What → Type 0) → ((q : ℕ) (b : ℤ) → P (what.Opened q b)) → ((c : Credited) → P (what.Known c))
    → ((q amount : ℕ) (key : List ℕ) → P (what.Pending q amount key)) → (end : PeriodEnd) (j : Entries) → Every (λ (e : Entry). P e.what) (brought_forward end j)
unfolding brought_forward
every_brought_forward P of_opened of_known of_pending end j =
    every-map (λ (e : Entry). P e.what) (head_entry end.moment) (handed_on end j)
    (every-append P (balances_brought_forward end.places j) _ (every-made P _ 0 end.places (λ q old. balances q (earlier_balance j old)))
    (every-append P (credits_brought_forward end.places j) _ (every-made P _ 0 j (λ n e. credits (as_credit e.what)))
    (every-made P _ 0 j (λ n e. settlements n e.what (is_unclosed j n) (as_ask e.what)))))
  where
    balances : (q : ℕ) (b : ℤ) → IfSome (opening_of q b) P
    balances q (pos zero) = tt
    balances q (pos (suc n)) = of_opened q (pos (suc n))
    balances q (negsuc n) = of_opened q (negsuc n)

    placed : (c : Credited) (o : Option ℕ) → IfSome (option_map (λ q. what.Known (credited_to q c)) o) P
    placed c None = tt
    placed c (Some q) = of_known (credited_to q c)

    credits : (o : Option Credited) → IfSome (option_and_then (λ (c : Credited). option_map (λ q. what.Known (credited_to q c)) (next_place end.places c.peer)) o) P
    credits None = tt
    credits (Some c) = placed c (next_place end.places c.peer)

    asked : (a : Ask) (key : List ℕ) (o : Option ℕ) → IfSome (option_map (λ q. what.Pending q a.amount key) o) P
    asked a key None = tt
    asked a key (Some q) = of_pending q a.amount key

    settlements : (n : ℕ) (w : What) (b : Bool) (o : Option Ask)
        → IfSome (cond b (option_and_then (λ (a : Ask). option_map (λ q. what.Pending q a.amount (settlement_key end.key_of n w)) (next_place end.places a.peer)) o) None) P
    settlements n w false o = tt
    settlements n w true None = tt
    settlements n w true (Some a) = asked a (settlement_key end.key_of n w) (next_place end.places a.peer)

-- no entry of a head answers or closes anything
pub head_answers_once : (end : PeriodEnd) (j : Entries) → Each AnswersOnce (brought_forward end j)
head_answers_once end j =
    each-every (λ (e : Entry). answered e.what ≡ None) AnswersOnce [] _ (λ before e none. rw none tt)
    (every_brought_forward (λ w. answered w ≡ None) (λ q b. refl) (λ c. refl) (λ q amount key. refl) end j)

pub head_closes_once : (end : PeriodEnd) (j : Entries) → Each ClosesOnce (brought_forward end j)
head_closes_once end j =
    each-every (λ (e : Entry). closed e.what ≡ None) ClosesOnce [] _ (λ before e none. rw none tt)
    (every_brought_forward (λ w. closed w ≡ None) (λ q b. refl) (λ c. refl) (λ q amount key. refl) end j)

pub head_unclosed : (end : PeriodEnd) (j : Entries) (n : ℕ) → is_unclosed (brought_forward end j) n ≡ true
head_unclosed end j n =
    ap is_none (first_from-every_none (λ _ (e : Entry). is_number n (closed e.what)) 0 (brought_forward end j)
    (every_brought_forward (λ w. (k : ℕ) → is_number n (closed w) ≡ false) (λ q b k. refl) (λ c k. refl) (λ q amount key k. refl) end j))

-- ---- sums over a head

-- what only openings add to is added by the balances that are brought forward
pub sum_forward : (g : What → ℕ) → ((c : Credited) → g (what.Known c) ≡ 0) → ((q amount : ℕ) (key : List ℕ) → g (what.Pending q amount key) ≡ 0)
    → (end : PeriodEnd) (j : Entries)
    → sum_by (λ (e : Entry). g e.what) (brought_forward end j) ≡ sum_from (λ q old. unwrap_or (option_map g (opening_of q (earlier_balance j old))) 0) 0 end.places
unfolding brought_forward
sum_forward g of_known of_pending end j =
    let openings : sum_by g (balances_brought_forward end.places j) ≡ sum_from (λ q old. unwrap_or (option_map g (opening_of q (earlier_balance j old))) 0) 0 end.places
    = sum_by-made g (opened_at j) 0 end.places in
    let keys : sum_by g (credits_brought_forward end.places j) ≡ 0
    = sum_by-made g (known_at end.places) 0 j ∙ sum_from-zero (λ n e. unwrap_or (option_map g (known_at end.places n e)) 0) 0 j (λ n e low. credits (as_credit e.what)) in
    let open_ones : sum_by g (settlements_brought_forward end j) ≡ 0
    = sum_by-made g (pending_at end j) 0 j ∙ sum_from-zero (λ n e. unwrap_or (option_map g (pending_at end j n e)) 0) 0 j (λ n e low. settlements n e.what (is_unclosed j n) (as_ask e.what)) in
    sum_by-map (λ (e : Entry). g e.what) (head_entry end.moment) (handed_on end j)
    ∙ sum_by-append g (balances_brought_forward end.places j) (credits_brought_forward end.places j ++ settlements_brought_forward end j)
    ∙ omega (arith, openings, keys, open_ones, sum_by-append g (credits_brought_forward end.places j) (settlements_brought_forward end j))
  where
    placed : (c : Credited) (o : Option ℕ) → unwrap_or (option_map g (option_map (λ q. what.Known (credited_to q c)) o)) 0 ≡ 0
    placed c None = refl
    placed c (Some q) = of_known (credited_to q c)

    credits : (o : Option Credited)
        → unwrap_or (option_map g (option_and_then (λ (c : Credited). option_map (λ q. what.Known (credited_to q c)) (next_place end.places c.peer)) o)) 0 ≡ 0
    credits None = refl
    credits (Some c) = placed c (next_place end.places c.peer)

    asked : (a : Ask) (key : List ℕ) (o : Option ℕ) → unwrap_or (option_map g (option_map (λ q. what.Pending q a.amount key) o)) 0 ≡ 0
    asked a key None = refl
    asked a key (Some q) = of_pending q a.amount key

    settlements : (n : ℕ) (w : What) (b : Bool) (o : Option Ask)
        → unwrap_or (option_map g (cond b (option_and_then (λ (a : Ask). option_map (λ q. what.Pending q a.amount (settlement_key end.key_of n w)) (next_place end.places a.peer)) o) None)) 0 ≡ 0
    settlements n w false o = refl
    settlements n w true None = refl
    settlements n w true (Some a) = asked a (settlement_key end.key_of n w) (next_place end.places a.peer)

-- ---- balances

-- the opening of one peer alone
pub of_peer : (size : ℤ → ℕ) → size (pos 0) ≡ 0 → (places : EarlierPlaces) (j : Entries) (q : ℕ)
    → sum_from (λ k old. cond (k == q) (size (earlier_balance j old)) 0) 0 places ≡ size (earlier_balance j (earlier_place places q))
of_peer size none places j q =
    let P : ℕ → Type 0 = λ n. sum_from (λ k old. cond (k == n) (size (earlier_balance j old)) 0) 0 places
    ≡ unwrap_or (option_map (λ old. size (earlier_balance j old)) (slice_get places q)) 0 in
    subst P (zero-add q) (sum_from_one (λ old. size (earlier_balance j old)) 0 q places) ∙ at (slice_get places q)
  where
    at : (o : Option (Option ℕ)) → unwrap_or (option_map (λ old. size (earlier_balance j old)) o) 0
        ≡ size (earlier_balance j (option_and_then (λ (old : Option ℕ). old) o))
    at None = sym none
    at (Some old) = refl

pub zero_or_zero : (b : Bool) → ◌≡◌ {A = ℕ} 0 (cond b 0 0)
zero_or_zero true = refl
zero_or_zero false = refl

-- what lies above and below 0 makes the balance
pub net : (b : ℤ) → pos (above b) -ℤ pos (below b) ≡ b
net (pos n) = omega (arith, ints)
net (negsuc n) = omega (arith, ints)

-- each peer's balance in a head is the one that it had
pub balance_brought_forward : (end : PeriodEnd) (j : Entries) (q : ℕ) → balance (brought_forward end j) q ≡ earlier_balance j (earlier_place end.places q)
unfolding balance
balance_brought_forward end j q = parts ∙ net (earlier_balance j (earlier_place end.places q))
  where
    rises : (k : ℕ) (b : ℤ) → unwrap_or (option_map (λ w. rise (brought_forward end j) q w) (opening_of k b)) 0 ≡ cond (k == q) (above b) 0
    rises k (pos zero) = zero_or_zero (k == q)
    rises k (pos (suc n)) = refl
    rises k (negsuc n) = refl

    falls : (k : ℕ) (b : ℤ) → unwrap_or (option_map (λ w. fall q w) (opening_of k b)) 0 ≡ cond (k == q) (below b) 0
    falls k (pos zero) = zero_or_zero (k == q)
    falls k (pos (suc n)) = refl
    falls k (negsuc n) = refl

    up : sum_by (λ (e : Entry). rise (brought_forward end j) q e.what) (brought_forward end j) ≡ above (earlier_balance j (earlier_place end.places q))
    up =
        sum_forward (λ w. rise (brought_forward end j) q w) (λ c. refl) (λ p amount key. refl) end j
        ∙ sum_from-same _ (λ k old. cond (k == q) (above (earlier_balance j old)) 0) 0 end.places (λ k old. rises k (earlier_balance j old))
        ∙ of_peer above refl end.places j q

    down : sum_by (λ (e : Entry). fall q e.what) (brought_forward end j) ≡ below (earlier_balance j (earlier_place end.places q))
    down =
        sum_forward (λ w. fall q w) (λ c. refl) (λ p amount key. refl) end j
        ∙ sum_from-same _ (λ k old. cond (k == q) (below (earlier_balance j old)) 0) 0 end.places (λ k old. falls k (earlier_balance j old))
        ∙ of_peer below refl end.places j q

    parts : balance (brought_forward end j) q ≡ pos (above (earlier_balance j (earlier_place end.places q))) -ℤ pos (below (earlier_balance j (earlier_place end.places q)))
    parts = ap₂ (λ m n. pos m -ℤ pos n) up down

pub balance_kept : (end : PeriodEnd) (j : Entries) (p q : ℕ) → next_place end.places p ≡ Some q → balance (brought_forward end j) q ≡ balance j p
balance_kept end j p q h = balance_brought_forward end j q ∙ ap (λ o. earlier_balance j (option_and_then (λ (old : Option ℕ). old) o)) (next_stands end.places p q h)

pub balance_of_new : (end : PeriodEnd) (j : Entries) (q : ℕ) → earlier_place end.places q ≡ None → balance (brought_forward end j) q ≡ pos 0
balance_of_new end j q h = balance_brought_forward end j q ∙ ap (earlier_balance j) h

-- ---- keys of credits

-- the credit that an entry keeps, if it is the peer's and under the key
abbrev credit_under : ℕ → List ℕ → What → Option Credited
credit_under p key w = cond (has_key p key w) (as_credit w) None

kept_credit_is : (j : Entries) (p : ℕ) (key : List ℕ) → kept_credit j p key ≡ first_some (λ (e : Entry). credit_under p key e.what) j
kept_credit_is j p key =
    first_from_is (λ (e : Entry). has_key p key e.what) (λ (e : Entry). as_credit e.what) j (λ e is. sure (as_credit e.what) is)
  where
    sure : (o : Option Credited) → unwrap_or (option_map (λ (c : Credited). (c.peer == p) && bytes_eq c.key key) o) false ≡ true → IsSome o
    sure None is = cc
    sure (Some c) is = refl

-- the credit in a head under a key, where b of each credit says whether it comes to the peer q
kept_brought_forward : (end : PeriodEnd) (j : Entries) (q : ℕ) (key : List ℕ) (g : What → Option Credited)
    → ((w : What) → option_and_then (credit_under q key) (known_credit end.places w) ≡ g w)
    → kept_credit (brought_forward end j) q key ≡ first_some (λ (e : Entry). g e.what) j
unfolding brought_forward
kept_brought_forward end j q key g same =
    kept_credit_is (brought_forward end j) q key
    ∙ first_some-map (λ (e : Entry). credit_under q key e.what) (head_entry end.moment) (handed_on end j)
    ∙ first_some-append (credit_under q key) (balances_brought_forward end.places j) (credits_brought_forward end.places j ++ settlements_brought_forward end j)
    ∙ ap₂ option_or
    (first_some-made (credit_under q key) (opened_at j) (λ _. None) 0 end.places (λ k old. balances k (earlier_balance j old)) ∙ first_some-none (λ _. None) end.places (λ _. refl))
    (first_some-append (credit_under q key) (credits_brought_forward end.places j) (settlements_brought_forward end j)
    ∙ ap₂ option_or (first_some-made (credit_under q key) (known_at end.places) (λ (e : Entry). g e.what) 0 j (λ n e. same e.what))
    (first_some-made (credit_under q key) (pending_at end j) (λ _. None) 0 j (λ n e. settlements n e.what (is_unclosed j n) (as_ask e.what)) ∙ first_some-none (λ _. None) j (λ _. refl)))
    ∙ or_none (first_some (λ (e : Entry). g e.what) j)
  where
    balances : (k : ℕ) (b : ℤ) → option_and_then (credit_under q key) (opening_of k b) ≡ None
    balances k (pos zero) = refl
    balances k (pos (suc n)) = refl
    balances k (negsuc n) = refl

    asked : (a : Ask) (word : List ℕ) (o : Option ℕ) → option_and_then (credit_under q key) (option_map (λ r. what.Pending r a.amount word) o) ≡ None
    asked a word None = refl
    asked a word (Some r) = refl

    settlements : (n : ℕ) (w : What) (b : Bool) (o : Option Ask)
        → option_and_then (credit_under q key) (cond b (option_and_then (λ (a : Ask). option_map (λ r. what.Pending r a.amount (settlement_key end.key_of n w)) (next_place end.places a.peer)) o) None) ≡ None
    settlements n w false o = refl
    settlements n w true None = refl
    settlements n w true (Some a) = asked a (settlement_key end.key_of n w) (next_place end.places a.peer)

    or_none : (o : Option Credited) → option_or None (option_or o None) ≡ o
    or_none None = refl
    or_none (Some c) = refl

-- a credit, where it comes to the place o
placed_credit : (q : ℕ) (key : List ℕ) (c : Credited) (o : Option ℕ) (b : Bool) → is_number q o ≡ b
    → option_and_then (credit_under q key) (option_map (λ r. what.Known (credited_to r c)) o) ≡ option_map (credited_to q) (cond (b && bytes_eq c.key key) (Some c) None)
placed_credit q key c None true e = cc
placed_credit q key c None false e = refl
placed_credit q key c (Some r) true e =
    let P : ℕ → Type 0 = λ k. cond ((k == q) && bytes_eq c.key key) (Some (credited_to k c)) None ≡ option_map (credited_to q) (cond (bytes_eq c.key key) (Some c) None) in
    subst P (eqb-true q r e) (rw (eq-eqb q q refl) (at (bytes_eq c.key key)))
  where
    at : (b : Bool) → cond b (Some (credited_to q c)) None ≡ option_map (credited_to q) (cond b (Some c) None)
    at true = refl
    at false = refl
placed_credit q key c (Some r) false e = rw (ne_eqb r q (λ same. eqb-false q r e (sym same))) refl

-- a peer's credit under a key is the one that it had
pub credit_kept : (end : PeriodEnd) (j : Entries) (p q : ℕ) (key : List ℕ) → next_place end.places p ≡ Some q
    → kept_credit (brought_forward end j) q key ≡ option_map (credited_to q) (kept_credit j p key)
credit_kept end j p q key h =
    kept_brought_forward end j q key (λ w. option_map (credited_to q) (credit_under p key w)) (λ w. of_credit (as_credit w))
    ∙ first_some-after (credited_to q) (λ (e : Entry). credit_under p key e.what) _ j (λ e. refl)
    ∙ ap (option_map (credited_to q)) (sym (kept_credit_is j p key))
  where
    of_credit : (o : Option Credited)
        → option_and_then (credit_under q key) (option_and_then (λ (c : Credited). option_map (λ r. what.Known (credited_to r c)) (next_place end.places c.peer)) o)
        ≡ option_map (credited_to q) (cond (unwrap_or (option_map (λ (c : Credited). (c.peer == p) && bytes_eq c.key key) o) false) o None)
    of_credit None = refl
    of_credit (Some c) = placed_credit q key c (next_place end.places c.peer) (c.peer == p) (next_is end.places p q c.peer h)

-- a new peer has no credit
pub credit_of_new : (end : PeriodEnd) (j : Entries) (q : ℕ) (key : List ℕ) → earlier_place end.places q ≡ None → kept_credit (brought_forward end j) q key ≡ None
credit_of_new end j q key h = kept_brought_forward end j q key (λ _. None) (λ w. of_credit (as_credit w)) ∙ first_some-none (λ _. None) j (λ _. refl)
  where
    of_credit : (o : Option Credited)
        → option_and_then (credit_under q key) (option_and_then (λ (c : Credited). option_map (λ r. what.Known (credited_to r c)) (next_place end.places c.peer)) o) ≡ None
    of_credit None = refl
    of_credit (Some c) = placed_credit q key c (next_place end.places c.peer) false (next_is_none end.places q c.peer h)

-- ---- open settlements

-- the settlement that an entry of a head has open to the peer q
abbrev pending_to : ℕ → What → Option (ℕ × List ℕ)
pending_to q w = settlement_to (λ _. []) q 0 w

-- the open settlements of a head are those that come to the peer q
settlements_are : (key_of : ℕ → List ℕ) (end : PeriodEnd) (j : Entries) (q : ℕ)
    → open_settlements key_of (brought_forward end j) q
    ≡ filter_map_from (λ n (e : Entry). option_and_then (pending_to q) (cond (is_unclosed j n) (pending_settlement end n e.what) None)) 0 j
unfolding open_settlements brought_forward
settlements_are key_of end j q = unclosed ∙ plain ∙ made
  where
    unclosed : open_settlements key_of (brought_forward end j) q ≡ filter_map_from (λ n (e : Entry). settlement_to key_of q n e.what) 0 (brought_forward end j)
    unclosed = made-same _ _ 0 (brought_forward end j) (λ n e. rw (head_unclosed end j n) refl)

    plain : filter_map_from (λ n (e : Entry). settlement_to key_of q n e.what) 0 (brought_forward end j) ≡ filter_map (λ (e : Entry). pending_to q e.what) (brought_forward end j)
    plain =
        made-every_same (λ n (e : Entry). settlement_to key_of q n e.what) (λ (e : Entry). pending_to q e.what) 0 (brought_forward end j)
        (every_brought_forward (λ w. (n : ℕ) → settlement_to key_of q n w ≡ pending_to q w) (λ p b n. refl) (λ c n. refl) (λ p amount key n. refl) end j)

    balances : (k : ℕ) (b : ℤ) → option_and_then (pending_to q) (opening_of k b) ≡ None
    balances k (pos zero) = refl
    balances k (pos (suc n)) = refl
    balances k (negsuc n) = refl

    placed : (c : Credited) (o : Option ℕ) → option_and_then (pending_to q) (option_map (λ r. what.Known (credited_to r c)) o) ≡ None
    placed c None = refl
    placed c (Some r) = refl

    credits : (o : Option Credited)
        → option_and_then (pending_to q) (option_and_then (λ (c : Credited). option_map (λ r. what.Known (credited_to r c)) (next_place end.places c.peer)) o) ≡ None
    credits None = refl
    credits (Some c) = placed c (next_place end.places c.peer)

    made : filter_map (λ (e : Entry). pending_to q e.what) (brought_forward end j)
        ≡ filter_map_from (λ n (e : Entry). option_and_then (pending_to q) (cond (is_unclosed j n) (pending_settlement end n e.what) None)) 0 j
    made =
        filter_map-map (λ (e : Entry). pending_to q e.what) (head_entry end.moment) (handed_on end j)
        ∙ filter_map-append (pending_to q) (balances_brought_forward end.places j) (credits_brought_forward end.places j ++ settlements_brought_forward end j)
        ∙ ap₂ (λ xs ys. xs ++ ys)
        (filter_map-made (pending_to q) (opened_at j) 0 end.places ∙ made-none (λ k old. option_and_then (pending_to q) (opened_at j k old)) 0 end.places (λ k old. balances k (earlier_balance j old)))
        (filter_map-append (pending_to q) (credits_brought_forward end.places j) (settlements_brought_forward end j)
        ∙ ap₂ (λ xs ys. xs ++ ys)
        (filter_map-made (pending_to q) (known_at end.places) 0 j ∙ made-none (λ n e. option_and_then (pending_to q) (known_at end.places n e)) 0 j (λ n e. credits (as_credit e.what)))
        (filter_map-made (pending_to q) (pending_at end j) 0 j))

-- a settlement, where it comes to the place o
placed_ask : (q amount : ℕ) (key : List ℕ) (o : Option ℕ) (b : Bool) → is_number q o ≡ b
    → option_and_then (pending_to q) (option_map (λ r. what.Pending r amount key) o) ≡ cond b (Some (amount, key)) None
placed_ask q amount key None true e = cc
placed_ask q amount key None false e = refl
placed_ask q amount key (Some r) true e = rw (eq-eqb r q (sym (eqb-true q r e))) refl
placed_ask q amount key (Some r) false e = rw (ne_eqb r q (λ same. eqb-false q r e (sym same))) refl

-- a peer's open settlements are those that it had, with their keys
pub settlements_kept : (key_of : ℕ → List ℕ) (end : PeriodEnd) (j : Entries) (p q : ℕ) → next_place end.places p ≡ Some q
    → open_settlements key_of (brought_forward end j) q ≡ open_settlements end.key_of j p
unfolding open_settlements
settlements_kept key_of end j p q h = settlements_are key_of end j q ∙ made-same _ _ 0 j (λ n e. of_open n e.what (is_unclosed j n) (as_ask e.what))
  where
    of_open : (n : ℕ) (w : What) (b : Bool) (o : Option Ask)
        → option_and_then (pending_to q) (cond b (option_and_then (λ (a : Ask). option_map (λ r. what.Pending r a.amount (settlement_key end.key_of n w)) (next_place end.places a.peer)) o) None)
        ≡ cond b (option_and_then (λ (a : Ask). cond (a.peer == p) (Some (a.amount, settlement_key end.key_of n w)) None) o) None
    of_open n w false o = refl
    of_open n w true None = refl
    of_open n w true (Some a) = placed_ask q a.amount (settlement_key end.key_of n w) (next_place end.places a.peer) (a.peer == p) (next_is end.places p q a.peer h)

-- none is open to a new peer
pub settlements_of_new : (key_of : ℕ → List ℕ) (end : PeriodEnd) (j : Entries) (q : ℕ) → earlier_place end.places q ≡ None
    → open_settlements key_of (brought_forward end j) q ≡ []
settlements_of_new key_of end j q h = settlements_are key_of end j q ∙ made-none (λ n e. option_and_then (pending_to q) (pending_at end j n e)) 0 j (λ n e. of_open n e.what (is_unclosed j n) (as_ask e.what))
  where
    of_open : (n : ℕ) (w : What) (b : Bool) (o : Option Ask)
        → option_and_then (pending_to q) (cond b (option_and_then (λ (a : Ask). option_map (λ r. what.Pending r a.amount (settlement_key end.key_of n w)) (next_place end.places a.peer)) o) None)
        ≡ None
    of_open n w false o = refl
    of_open n w true None = refl
    of_open n w true (Some a) = placed_ask q a.amount (settlement_key end.key_of n w) (next_place end.places a.peer) false (next_is_none end.places q a.peer h)
