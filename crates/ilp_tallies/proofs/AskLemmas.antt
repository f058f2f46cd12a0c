-- What one more entry makes of the open settlements of a peer.
use Rattle.std.proofs.Common.{◌≡◌, ℕ, ◌+◌, ◌<◌, Bool, true, false, cond, not, ◌||◌, List, [], ◌∷◌, ◌++◌, length, set, Option, Some, None, refl, sym, ap, ◌∙◌, subst, zero-add, arith, get_or-set_same, get_or-set_other, length-set}
use Rattle.std.specs.Prelude.{◌&&◌, ◌==◌, filter, slice_get, option_map, option_and_then, unwrap_or, IsSome, IsNone, IfSome, is_some}
use Rattle.std.proofs.lemmas.Bool.{eqb-true, eqb-false}
use Rattle.std.proofs.lemmas.List.{append-nil}
use Rattle.ilp_journal.specs.declared.entry.Entry.{Entry}
use Rattle.ilp_journal.specs.declared.entry.What.{What}
use Rattle.ilp_journal.specs.declared.entry.What.TheVariants as what
use Rattle.ilp_journal.specs.declared.entry.Ask.{Ask}
use Rattle.ilp_journal.specs.Journal.{Entries, ClosesOnce, as_ask, ask_at, closed, closing_of, is_ask_of, is_number, is_unclosed, paid_to, open_asks}
use Rattle.ilp_order.specs.Places.{Each, places_from}
use Rattle.ilp_order.proofs.Sums.{sum_from-same}
use Rattle.ilp_journal.proofs.Naming.{is_some-place-push, place_of_last}
use Rattle.ilp_tallies.specs.declared.open_asks.TheConstants.{MOST_OPEN}
use Rattle.ilp_tallies.specs.OpenAsks.{is_open_ask_of, open_numbers, asks_row, with_ask, without_named, asks_after, AreOpenAsks, HasRoomToAsk}
use Rattle.ilp_tallies.specs.Tallies.{KnowsAsk}
use Rattle.ilp_tallies.proofs.StepLemmas.{KnowsNamed}
use Rattle.ilp_order.proofs.PlaceLemmas.{places-length, places-push, places-same, places-filter, places-keep}

-- as many numbers as settlements that are open
pub open_numbers-length : (j : Entries) (p : ℕ) → length (open_numbers j p) ≡ open_asks j p
unfolding open_asks
open_numbers-length j p =
    places-length (is_open_ask_of p j) 0 j ∙ sum_from-same _ _ 0 j (λ k d. same (as_ask d.what) (is_unclosed j k))
  where
    same : (o : Option Ask) (b : Bool) → cond (unwrap_or (option_map (λ (a : Ask). a.peer == p) o) false && b) 1 0 ≡ cond b (unwrap_or (option_map (paid_to p) o) 0) 0
    same None true = refl
    same None false = refl
    same (Some a) true = of (a.peer == p)
      where
        of : (c : Bool) → ◌≡◌ {A = ℕ} (cond (c && true) 1 0) (cond c 1 0)
        of true = refl
        of false = refl
    same (Some a) false = of (a.peer == p)
      where
        of : (c : Bool) → ◌≡◌ {A = ℕ} (cond (c && false) 1 0) 0
        of true = refl
        of false = refl

-- one more entry removes the number that it closes and adds that of the settlement that it asks for
pub open_numbers-push : (j : Entries) (e : Entry) (p : ℕ) → Each ClosesOnce j → ClosesOnce j e
    → open_numbers (j ++ e ∷ []) p ≡ filter (λ k. not (is_number k (closed e.what))) (open_numbers j p) ++ cond (is_ask_of p e.what) (length j ∷ []) []
open_numbers-push j e p each last =
    places-push after 0 j e ∙ rw (zero-add (length j), newest) (ap (λ l. l ++ cond (is_ask_of p e.what) (length j ∷ []) []) earlier)
  where
    after : ℕ → Entry → Bool
    after = is_open_ask_of p (j ++ e ∷ [])

    and_true : (b : Bool) → (b && true) ≡ b
    and_true true = refl
    and_true false = refl

    newest : is_open_ask_of p (j ++ e ∷ []) (length j) e ≡ is_ask_of p e.what
    newest = rw (place_of_last closed as_ask j e each last) (and_true (is_ask_of p e.what))

    either : (a b c : Bool) → (a && not (b || c)) ≡ ((a && not b) && not c)
    either true true c = refl
    either true false c = refl
    either false true c = refl
    either false false c = refl

    earlier : places_from (is_open_ask_of p (j ++ e ∷ [])) 0 j ≡ filter (λ k. not (is_number k (closed e.what))) (open_numbers j p)
    earlier =
        places-same (is_open_ask_of p (j ++ e ∷ [])) (λ k d. is_open_ask_of p j k d && not (is_number k (closed e.what)))
        (λ k d. rw (is_some-place-push closed k j e) (either (is_ask_of p d.what) (is_some (closing_of j k)) (is_number k (closed e.what)))) 0 j
        ∙ places-filter (λ k. not (is_number k (closed e.what))) (is_open_ask_of p j) 0 j

-- the number of a settlement to another peer is none of these
others_stay : (j : Entries) (p n : ℕ) (a : Ask) → ask_at j n ≡ Some a → (a.peer == p) ≡ false → filter (λ k. not (k == n)) (open_numbers j p) ≡ open_numbers j p
others_stay j p n a stands other = places-keep (λ k. not (k == n)) (is_open_ask_of p j) 0 j (λ i d at passed. rw (zero-add i) (of i (i == n) refl d at (asks i d passed)))
  where
    asks : (i : ℕ) (d : Entry) → is_open_ask_of p j (0 + i) d ≡ true → is_ask_of p d.what ≡ true
    asks i d passed = first (is_ask_of p d.what) (is_unclosed j (0 + i)) passed
      where
        first : (b c : Bool) → (b && c) ≡ true → b ≡ true
        first true c passed = refl
        first false c passed = passed

    of : (i : ℕ) (b : Bool) → (i == n) ≡ b → (d : Entry) → slice_get j i ≡ Some d → is_ask_of p d.what ≡ true → not b ≡ true
    of i false is d at its = refl
    of i true is d at its =
        let there : slice_get j n ≡ Some d = subst (λ k. slice_get j k ≡ Some d) (eqb-true i n is) at in
        let same : as_ask d.what ≡ Some a = sym (ap (option_and_then (λ (e : Entry). as_ask e.what)) there) ∙ stands in
        let not_its : is_ask_of p d.what ≡ false = ap (λ o. unwrap_or (option_map (λ (q : Ask). q.peer == p) o) false) same ∙ other in
        cc (sym its ∙ not_its)

-- a test that all pass removes nothing
filter_all : (xs : List ℕ) → filter (λ k. true) xs ≡ xs
filter_all [] = refl
filter_all (x ∷ xs) = ap (λ l. x ∷ l) (filter_all xs)

module _ (rows : List (List ℕ)) (j : Entries) (p : ℕ) (are : AreOpenAsks j rows) where
  -- what the row of the peer is to be after an entry
  abbrev next : What → List ℕ
  next w = filter (λ k. not (is_number k (closed w))) (open_numbers j p) ++ cond (is_ask_of p w) (length j ∷ []) []

  -- an entry that asks for no settlement and closes none
  nothing : asks_row rows p ≡ filter (λ k. true) (open_numbers j p) ++ []
  nothing = are p ∙ sym (append-nil (filter (λ k. true) (open_numbers j p)) ∙ filter_all (open_numbers j p))

  -- another row at the place of a peer
  row_set : (q : ℕ) (row : List ℕ) → q < length rows → asks_row (set rows q row) p ≡ cond (q == p) row (asks_row rows p)
  row_set q row known = of (q == p) refl
    where
      of : (b : Bool) → (q == p) ≡ b → asks_row (set rows q row) p ≡ cond b row (asks_row rows p)
      of true is = let P : ℕ → Type 0 = λ m. asks_row (set rows q row) m ≡ row in subst P (eqb-true q p is) (get_or-set_same rows q row [] known)
      of false is = get_or-set_other rows q p row [] (λ same. eqb-false q p is (sym same))

  -- the row after an entry that asks for a settlement
  asked_row : (a : Ask) → a.peer < length rows → asks_row (with_ask rows a.peer (length j)) p ≡ next (what.Asked a)
  asked_row a known = row_set a.peer (asks_row rows a.peer ++ length j ∷ []) known ∙ of (a.peer == p) refl
    where
      of : (b : Bool) → (a.peer == p) ≡ b
          → cond b (asks_row rows a.peer ++ length j ∷ []) (asks_row rows p) ≡ filter (λ k. true) (open_numbers j p) ++ cond b (length j ∷ []) []
      of true is =
          let P : ℕ → Type 0 = λ m. asks_row rows m ++ length j ∷ [] ≡ filter (λ k. true) (open_numbers j p) ++ length j ∷ [] in
          subst P (sym (eqb-true a.peer p is)) (ap (λ l. l ++ length j ∷ []) (are p ∙ sym (filter_all (open_numbers j p))))
      of false is = nothing

  -- the row after an entry that closes a settlement
  closed_row : (n : ℕ) (o : Option Ask) → ask_at j n ≡ o → IfSome o (KnowsAsk (length rows)) → IsSome o
      → asks_row (without_named rows n o) p ≡ filter (λ k. not (k == n)) (open_numbers j p) ++ []
  closed_row n None is known stands = cc
  closed_row n (Some a) is known stands =
      row_set a.peer (filter (λ k. not (k == n)) (asks_row rows a.peer)) known
      ∙ of (a.peer == p) refl ∙ sym (append-nil (filter (λ k. not (k == n)) (open_numbers j p)))
    where
      of : (b : Bool) → (a.peer == p) ≡ b → cond b (filter (λ k. not (k == n)) (asks_row rows a.peer)) (asks_row rows p) ≡ filter (λ k. not (k == n)) (open_numbers j p)
      of true same =
          let P : ℕ → Type 0 = λ m. filter (λ k. not (k == n)) (asks_row rows m) ≡ filter (λ k. not (k == n)) (open_numbers j p) in
          subst P (sym (eqb-true a.peer p same)) (ap (filter (λ k. not (k == n))) (are p))
      of false other = are p ∙ sym (others_stay j p n a is other)

  -- the row after any entry
  pub asks_after_is : (w : What) → KnowsNamed (length rows) j w → IfSome (closed w) (λ n. IsSome (ask_at j n) × IsNone (closing_of j n)) → asks_row (asks_after rows j w) p ≡ next w
  asks_after_is (what.Hold h) known c = nothing
  asks_after_is (what.Fulfilled hold preimage) known c = nothing
  asks_after_is (what.Released hold cause) known c = nothing
  asks_after_is (what.Credited credit) known c = nothing
  asks_after_is (what.Asked a) known c = asked_row a known
  asks_after_is (what.Confirmed n) known c = closed_row n (ask_at j n) refl known c.0
  asks_after_is (what.Undone n) known c = closed_row n (ask_at j n) refl known c.0
  asks_after_is (what.Opened peer balance) known c = nothing
  asks_after_is (what.Known credit) known c = nothing
  asks_after_is (what.Pending peer amount key) known c = asked_row (record { peer = peer; amount = amount }) known

-- the open settlements after one more entry
pub open_asks_grow : (rows : List (List ℕ)) (j : Entries) (e : Entry) → AreOpenAsks j rows → KnowsNamed (length rows) j e.what → Each ClosesOnce j → ClosesOnce j e
    → AreOpenAsks (j ++ e ∷ []) (asks_after rows j e.what)
open_asks_grow rows j e are known each last = λ p. asks_after_is rows j p are e.what known last ∙ sym (open_numbers-push j e p each last)

-- no row is lost
pub asks_after-length : (rows : List (List ℕ)) (j : Entries) (w : What) → length (asks_after rows j w) ≡ length rows
asks_after-length rows j (what.Hold h) = refl
asks_after-length rows j (what.Fulfilled hold preimage) = refl
asks_after-length rows j (what.Released hold cause) = refl
asks_after-length rows j (what.Credited c) = refl
asks_after-length rows j (what.Asked a) = length-set rows a.peer (asks_row rows a.peer ++ length j ∷ [])
asks_after-length rows j (what.Confirmed n) = of (ask_at j n)
  where
    of : (o : Option Ask) → length (without_named rows n o) ≡ length rows
    of None = refl
    of (Some a) = length-set rows a.peer (filter (λ k. not (k == n)) (asks_row rows a.peer))
asks_after-length rows j (what.Undone n) = of (ask_at j n)
  where
    of : (o : Option Ask) → length (without_named rows n o) ≡ length rows
    of None = refl
    of (Some a) = length-set rows a.peer (filter (λ k. not (k == n)) (asks_row rows a.peer))
asks_after-length rows j (what.Opened peer balance) = refl
asks_after-length rows j (what.Known c) = refl
asks_after-length rows j (what.Pending peer amount key) = length-set rows peer (asks_row rows peer ++ length j ∷ [])
