-- Peers that keep their places, and how many settlements are open to each.
use Rattle.std.proofs.Common.{◌≡◌, ℕ, zero, suc, ◌+◌, ◌<◌, ◌≤◌, pos, Bool, true, false, cond, List, [], ◌∷◌, map, length, inl, inr, Option, Some, None, is_some, refl, sym, ap, ◌∙◌, subst, arith, zero-add, add-zero, slice_get, option_map, option_and_then, unwrap_or, ◌==◌, IsTrue}
use Rattle.std.specs.List.{range_with_len, cons_option}
use Rattle.std.proofs.lemmas.Bool.{eq-eqb, ne_eqb, cases_lt}
use Rattle.ilp_journal.specs.declared.entry.Entry.{Entry}
use Rattle.ilp_journal.specs.declared.entry.Ask.{Ask}
use Rattle.ilp_journal.specs.declared.entry.What.{What}
use Rattle.ilp_order.specs.Places.{sum_from, first_from, Each}
use Rattle.ilp_journal.specs.Made.{filter_map_from}
use Rattle.ilp_journal.specs.Journal.{Entries, as_ask, is_number, is_unclosed, of_ask, paid_to, open_asks}
use Rattle.ilp_journal.specs.Balance.{balance}
use Rattle.ilp_journal.specs.BroughtForward.{PeriodEnd, next_place, same_places, is_brought_forward, brought_forward, settlement_key, settlement_to, open_settlements, KeepsPeers}
use Rattle.ilp_order.proofs.Sums.{sum_from-same}
use Rattle.ilp_journal.proofs.Made.{each-every}
use Rattle.ilp_journal.proofs.Heads.{next_stands, every_brought_forward, settlements_kept}

-- ---- places that are kept

in_range : (k a n : ℕ) → k < n → first_from (λ _ (old : Option ℕ). is_number (a + k) old) a (map (λ p. Some p) (range_with_len a n)) ≡ Some (a + k)
in_range k a zero h = absurd (omega arith)
in_range zero a (suc n) h = rw (eq-eqb (a + zero) a (omega arith)) (ap Some (sym (add-zero a)))
in_range (suc k) a (suc n) h =
    let P : ℕ → Type 0 = λ m. first_from (λ _ (old : Option ℕ). is_number m old) (a + 1) (map (λ p. Some p) (range_with_len (a + 1) n)) ≡ Some m in
    rw (ne_eqb (a + suc k) a (λ e. omega arith)) (subst P (omega arith) (in_range k (a + 1) n (omega arith)))

at_range : (i a n : ℕ) → i < n → slice_get (map (λ p. Some p) (range_with_len a n)) i ≡ Some (Some (a + i))
at_range i a zero h = absurd (omega arith)
at_range zero a (suc n) h = ap (λ k. Some (Some k)) (sym (add-zero a))
at_range (suc i) a (suc n) h =
    let P : ℕ → Type 0 = λ m. slice_get (map (λ p. Some p) (range_with_len (a + 1) n)) i ≡ Some (Some m) in
    subst P (omega arith) (at_range i (a + 1) n (omega arith))

past_range : (i a n : ℕ) → n ≤ i → slice_get (map (λ (p : ℕ). Some p) (range_with_len a n)) i ≡ None
past_range i a zero h = refl
past_range zero a (suc n) h = absurd (omega arith)
past_range (suc i) a (suc n) h = past_range i (a + 1) n (omega arith)

-- each of n peers that keep their places has the same in the next period
pub same_place : (n p : ℕ) → p < n → next_place (same_places n) p ≡ Some p
same_place n p h =
    let P : ℕ → Type 0 = λ m. first_from (λ _ (old : Option ℕ). is_number m old) 0 (same_places n) ≡ Some m in
    subst P (zero-add p) (in_range p 0 n h)

-- whoever has a place has it still
same_last : (n p q : ℕ) → slice_get (same_places n) q ≡ Some (Some p) → (p ≡ q) × (q < n)
same_last n p q h = elim (cases_lt q n) [
  | inl within ↦
      let stands : slice_get (same_places n) q ≡ Some (Some (0 + q)) = at_range q 0 n within in
      let same : 0 + q ≡ p = cc in (omega arith, within)
  | inr past ↦ cc (past_range q 0 n past)
]

-- and so such peers keep what they have
pub same_peers_keep : (assets : List ℕ) (j : Entries) → ((p : ℕ) → length assets ≤ p → balance j p ≡ pos 0)
    → KeepsPeers assets assets (same_places (length assets)) j
same_peers_keep assets j known = record {
  once = λ p q h.
      let same : (p ≡ q) × (q < length assets) = same_last (length assets) p q (of_last p q (slice_get (same_places (length assets)) q) h) in
      subst (λ k. next_place (same_places (length assets)) p ≡ Some k) same.0 (same_place (length assets) p (omega (arith, same.0, same.1)));
  kept = λ p q h _. ap (slice_get assets) (sym (same_last (length assets) p q (next_stands (same_places (length assets)) p q h)).0);
  removed = λ p h. elim (cases_lt p (length assets)) [ inl within ↦ cc (same_place (length assets) p within) | inr past ↦ known p past ];
}
  where
    of_last : (p q : ℕ) (o : Option (Option ℕ)) → option_and_then (λ (old : Option ℕ). old) o ≡ Some p → o ≡ Some (Some p)
    of_last p q None h = cc
    of_last p q (Some old) h = ap Some h

-- ---- how many settlements are open

length-made : {X Y : Type 0} (f : ℕ → X → Option Y) (n : ℕ) (xs : List X) → length (filter_map_from f n xs) ≡ sum_from (λ k x. cond (is_some (f k x)) 1 0) n xs
length-made f n [] = refl
length-made {X} {Y} f n (x ∷ xs) = first (f n x) (filter_map_from f (n + 1) xs) ∙ ap (λ s. cond (is_some (f n x)) 1 0 + s) (length-made f (n + 1) xs)
  where
    first : (o : Option Y) (rest : List Y) → length (cons_option o rest) ≡ cond (is_some o) 1 0 + length rest
    first None rest = sym (zero-add (length rest))
    first (Some y) rest = omega arith

-- as many settlements are open to a peer as are listed
pub open_asks_are : (key_of : ℕ → List ℕ) (j : Entries) (p : ℕ) → open_asks j p ≡ length (open_settlements key_of j p)
unfolding open_asks open_settlements
open_asks_are key_of j p =
    sum_from-same (λ n (e : Entry). cond (is_unclosed j n) (of_ask (paid_to p) e.what) 0)
    (λ n (e : Entry). cond (is_some (cond (is_unclosed j n) (settlement_to key_of p n e.what) None)) 1 0) 0 j
    (λ n e. counted n e.what (is_unclosed j n) (as_ask e.what))
    ∙ sym (length-made (λ n (e : Entry). cond (is_unclosed j n) (settlement_to key_of p n e.what) None) 0 j)
  where
    one : (b : Bool) (x : ℕ × List ℕ) → ◌≡◌ {A = ℕ} (cond b 1 0) (cond (is_some (cond b (Some x) None)) 1 0)
    one true x = refl
    one false x = refl

    counted : (n : ℕ) (w : What) (b : Bool) (o : Option Ask) → cond b (unwrap_or (option_map (paid_to p) o) 0) 0
        ≡ cond (is_some {T = ℕ × List ℕ} (cond b (option_and_then (λ (a : Ask). cond (a.peer == p) (Some (a.amount, settlement_key key_of n w)) None) o) None)) 1 0
    counted n w false o = refl
    counted n w true None = refl
    counted n w true (Some a) = one (a.peer == p) (a.amount, settlement_key key_of n w)

-- as many are open to a peer in a head
pub open_asks_kept : (end : PeriodEnd) (j : Entries) (p q : ℕ) → next_place end.places p ≡ Some q → open_asks (brought_forward end j) q ≡ open_asks j p
open_asks_kept end j p q h =
    open_asks_are end.key_of (brought_forward end j) q ∙ ap length (settlements_kept end.key_of end j p q h) ∙ sym (open_asks_are end.key_of j p)

-- ---- kinds

-- each entry of a head is of a kind that stands in heads alone
pub head_kinds : (end : PeriodEnd) (j : Entries) → Each (λ _ (e : Entry). IsTrue (is_brought_forward e.what)) (brought_forward end j)
head_kinds end j =
    each-every (λ (e : Entry). IsTrue (is_brought_forward e.what)) (λ _ (e : Entry). IsTrue (is_brought_forward e.what)) [] (brought_forward end j) (λ before e is. is)
    (every_brought_forward (λ w. IsTrue (is_brought_forward w)) (λ q b. refl) (λ c. refl) (λ q amount key. refl) end j)
