-- What is brought forward keeps the rules of the next period, entry by entry.
use Rattle.std.proofs.Common.{◌≡◌, ℕ, zero, suc, ◌+◌, ◌<◌, ◌≤◌, ℤ, pos, negsuc, Bool, true, false, cond, List, [], ◌∷◌, ◌++◌, map, length, Option, Some, None, refl, sym, ap, ◌∙◌, subst, arith, zero-add, append_assoc, IfSome, IsNone, slice_get, option_map, option_and_then, unwrap_or, ◌==◌, All, is_some}
use Rattle.std.specs.Prelude.{◌≤ℤ◌, IsTrue}
use Rattle.std.specs.List.{cons_option, list_all}
use Rattle.std.specs.Str.{bytes_eq}
use Rattle.std.proofs.lemmas.Bool.{eq-eqb, eqb-true}
use Rattle.std.proofs.lemmas.Int.{ints}
use Rattle.std.proofs.lemmas.List.Elements.{All-nil, All-push}
use Rattle.std.proofs.lemmas.List.Sums.{fold_push}
use Rattle.std.proofs.lemmas.Option.{slice_get_within}
use Rattle.std.proofs.lemmas.Slice.Eq.{bytes_eq-Decides}
use Rattle.ilp_accounts.specs.Configuration.{Configuration}
use Rattle.ilp_accounts.specs.Valid.{IsValid}
use Rattle.ilp_journal.specs.declared.entry.Entry.{Entry}
use Rattle.ilp_journal.specs.declared.entry.What.{What}
use Rattle.ilp_journal.specs.declared.entry.What.TheVariants as what
use Rattle.ilp_journal.specs.declared.entry.Ask.{Ask}
use Rattle.ilp_journal.specs.declared.entry.Credited.{Credited}
use Rattle.ilp_order.specs.Places.{Each}
use Rattle.ilp_journal.specs.Made.{filter_map_from}
use Rattle.ilp_journal.specs.Keys.{IsKey}
use Rattle.ilp_journal.specs.Journal.{Entries, as_ask, ask_at, is_unclosed, of_ask, paid_to, open_asks, last_moment}
use Rattle.ilp_journal.specs.Credits.{as_credit}
use Rattle.ilp_journal.specs.BroughtForward.{PeriodEnd, next_place, head_entry, earlier_key, settlement_key, credited_to, balances_brought_forward, credits_brought_forward, settlements_brought_forward, brought_forward, opening_of, earlier_balance, HasFreshKey}
use Rattle.ilp_order.proofs.Sums.{by_push, Each-push, Each-parts, Each-each, slice_get-append, slice_get-push}
use Rattle.ilp_journal.proofs.Made.{Every, every-append, every-map, every-made, each-every, first_from-every_none}
use Rattle.ilp_journal.proofs.Heads.{opened_at, known_at, pending_at}
use Rattle.ilp_journal.proofs.HeadRules.{each_made, each_map}
use Rattle.ilp_journal.proofs.OpenGrowth.{open_asks-push}
use Rattle.ilp_tallies.specs.OpenAsks.{HasRoomToAsk}
use Rattle.ilp_terms.specs.Expiry.{last_of_all}
use Rattle.ilp_rules.specs.Book.{PlainBook, by, entry_by, moment_at}
use Rattle.ilp_rules.specs.Heads.{most_open_asks, HasOwnKey, IsHead, IsOfPeriodFrom, KeepsKeyRule, has_earlier_key, is_key_octet, settlement_key_of}
use Rattle.ilp_rules.specs.Heads as heads
use Rattle.ilp_rules.specs.Lawful.{IsLawful, IsInTime, KeepsRule, KeepsRuleOf}
use Rattle.ilp_rules.specs.SettlementKeys.{settlement_key_at}
use Rattle.ilp_rules.proofs.InTime.{in_time}
use Rattle.ilp_rules.proofs.OwnKeys.{own_keys, key_named, key_visible, key_earlier}
use Rattle.ilp_rules.proofs.Rules.{rule_closes}
use Rattle.ilp_rules.proofs.TableSteps.{key_fresh, room_to_ask}
use Rattle.ilp_next_period.specs.NextPeriod.{period_end, next_head}

-- ---- lists

-- each element stands at its place, behind those before it
abbrev Stands : {X : Type 0} → List X → List X → X → Type 0
Stands {X} xs done x = (slice_get xs (length done) ≡ Some x) × ((k : ℕ) (y : X) → slice_get done k ≡ Some y → slice_get xs k ≡ Some y)

each_stands : {X : Type 0} (xs : List X) → Each (Stands xs) xs
each_stands {X} = by_push (λ xs. Each (Stands xs) xs) tt one_more
  where
    still : (xs : List X) (x : X) (k : ℕ) (y : X) → slice_get xs k ≡ Some y → slice_get (xs ++ x ∷ []) k ≡ Some y
    still xs x k y is = slice_get-append xs (x ∷ []) k (ap is_some is) ∙ is

    one_more : (xs : List X) (x : X) → Each (Stands xs) xs → Each (Stands (xs ++ x ∷ [])) (xs ++ x ∷ [])
    one_more xs x each =
        Each-push (Stands (xs ++ x ∷ [])) xs x
        (Each-each (Stands xs) (Stands (xs ++ x ∷ [])) xs (λ done y s. (still xs x (length done) y s.0, λ k z at. still xs x k z (s.1 k z at))) each)
        (slice_get-push xs x (length xs) ∙ ap (λ b. cond b (Some x) (slice_get xs (length xs))) (eq-eqb (length xs) (length xs) refl), λ k y at. still xs x k y at)

-- what holds of all holds of all before each
pub each_all : {X : Type 0} (P : X → Type 0) (xs : List X) → Every P xs → Each (λ before _. All P before) xs
each_all {X} P xs every = of xs (each-every P (λ _ x. P x) [] xs (λ _ x p. p) every)
  where
    Whole : List X → Type 0
    Whole ys = Each (λ _ x. P x) ys → All P ys

    longer : (ys : List X) (y : X) → Whole ys → Whole (ys ++ y ∷ [])
    longer ys y before each = let parts : Each (λ _ x. P x) ys × P y = Each-parts (λ _ x. P x) ys y each in All-push P ys y (before parts.0) parts.1

    whole : (ys : List X) → Whole ys
    whole = by_push Whole (λ _. All-nil P) longer

    Before : List X → Type 0
    Before ys = Each (λ _ x. P x) ys → Each (λ before _. All P before) ys

    more : (ys : List X) (y : X) → Before ys → Before (ys ++ y ∷ [])
    more ys y before each =
        let parts : Each (λ _ x. P x) ys × P y = Each-parts (λ _ x. P x) ys y each in Each-push (λ before _. All P before) ys y (before parts.0) (whole ys parts.0)

    of : (ys : List X) → Before ys
    of = by_push Before (λ _. tt) more

-- each that is made of an element at its place
every_made_at : {X Y : Type 0} (P : Y → Type 0) (f : ℕ → X → Option Y) (n : ℕ) (xs : List X) → ((k : ℕ) (x : X) → slice_get xs k ≡ Some x → IfSome (f (n + k) x) P)
    → Every P (filter_map_from f n xs)
every_made_at P f n [] of = tt
every_made_at {X} {Y} P f n (x ∷ xs) of =
    first (f n x) (filter_map_from f (n + 1) xs) (subst (λ k. IfSome (f k x) P) (omega arith) (of 0 x refl))
    (every_made_at P f (n + 1) xs (λ k y at. subst (λ i. IfSome (f i y) P) (omega arith) (of (suc k) y at)))
  where
    first : (o : Option Y) (rest : List Y) → IfSome o P → Every P rest → Every P (cons_option o rest)
    first None rest p q = q
    first (Some y) rest p q = (p, q)

-- ---- the journal that ends

-- nothing is open before any entry
nothing_open : (p : ℕ) → open_asks [] p ≡ 0
unfolding open_asks
nothing_open p = refl

module _ (book : PlainBook) (valid : IsValid book.config) (lawful : IsLawful book) where
  -- each credit has a key that is new to its peer
  pub fresh_keys : Each HasFreshKey book.entries
  fresh_keys = Each-each (KeepsRuleOf book) HasFreshKey book.entries (λ before e rule. key_fresh book.config book.period book.base before e.moment e.what rule) lawful.rules

  -- no more settlements are open to a peer than may be
  pub asks_within : (p : ℕ) → open_asks book.entries p ≤ most_open_asks
  asks_within p = by_push (λ j. Each (KeepsRuleOf book) j → open_asks j p ≤ most_open_asks) none more book.entries lawful.rules
    where
      none : Each (KeepsRuleOf book) [] → open_asks [] p ≤ most_open_asks
      none rules = omega (arith, nothing_open p)

      paid : (q : ℕ) (a : Ask) (j : Entries) → a.peer ≡ q → open_asks j q < 4 → open_asks j p ≤ 4 → open_asks j p + paid_to p a ≤ 4
      paid q a j is few now = test (a.peer == p) refl
        where
          test : (b : Bool) → (a.peer == p) ≡ b → open_asks j p + cond b 1 0 ≤ 4
          test true same = let here : open_asks j p < 4 = subst (λ k. open_asks j k < 4) (sym is ∙ eqb-true a.peer p same) few in omega (arith, here)
          test false other = omega (arith, now)

      one : (j : Entries) (w : What) → HasRoomToAsk j w → open_asks j p ≤ 4 → open_asks j p + of_ask (paid_to p) w ≤ 4
      one j (what.Hold h) room now = omega (arith, now)
      one j (what.Fulfilled hold preimage) room now = omega (arith, now)
      one j (what.Released hold cause) room now = omega (arith, now)
      one j (what.Credited c) room now = omega (arith, now)
      one j (what.Asked a) room now = paid a.peer a j refl room now
      one j (what.Confirmed ask) room now = omega (arith, now)
      one j (what.Undone ask) room now = omega (arith, now)
      one j (what.Opened peer balance) room now = omega (arith, now)
      one j (what.Known c) room now = omega (arith, now)
      one j (what.Pending peer amount key) room now = paid peer (record { peer = peer; amount = amount }) j refl room now

      more : (j : Entries) (e : Entry) → (Each (KeepsRuleOf book) j → open_asks j p ≤ most_open_asks) → Each (KeepsRuleOf book) (j ++ e ∷ []) → open_asks (j ++ e ∷ []) p ≤ most_open_asks
      more j e before each =
          let parts : Each (KeepsRuleOf book) j × KeepsRuleOf book j e = Each-parts (KeepsRuleOf book) j e each in
          let closes = λ (k : Entries) (d : Entry) (rule : KeepsRuleOf book k d). rule_closes book.config book.period book.base k d rule in
          let grown = open_asks-push j e p (Each-each (KeepsRuleOf book) _ j closes parts.0) (closes j e parts.1) in
          omega (arith, grown, one j e.what (room_to_ask book.config book.period book.base j e.moment e.what parts.1) (before parts.0))

-- a credit has a key
credit_key : (C : Configuration) (period base : ℕ) (j : Entries) (m : ℤ) (w : What) → KeepsRule C period base j m w → IfSome (as_credit w) (λ (c : Credited). IsKey c.key)
credit_key C period base j m (what.Hold h) rule = tt
credit_key C period base j m (what.Fulfilled hold preimage) rule = tt
credit_key C period base j m (what.Released hold cause) rule = tt
credit_key C period base j m (what.Credited c) rule = rule.named
credit_key C period base j m (what.Asked a) rule = tt
credit_key C period base j m (what.Confirmed ask) rule = tt
credit_key C period base j m (what.Undone ask) rule = tt
credit_key C period base j m (what.Opened peer balance) rule = tt
credit_key C period base j m (what.Known c) rule = rule.keys
credit_key C period base j m (what.Pending peer amount key) rule = tt

-- ---- keys in the head

module _ (book : PlainBook) (next : Configuration) (now : ℤ) (valid : IsValid book.config) (lawful : IsLawful book) (run : next.settings.run ≡ book.config.settings.run) where
  abbrev end : PeriodEnd
  end = period_end book next now

  abbrev h : What → Entry
  h w = head_entry end.moment w

  -- the rule of keys behind what was brought forward before
  abbrev KeyRule : List What → What → Type 0
  KeyRule before w = KeepsKeyRule next (book.period + 1) (map h before) w

  -- the key of the settlement that an entry opens
  abbrev key_in : ℕ → Entry → List ℕ
  key_in n e = settlement_key end.key_of n e.what

  key_is : (n : ℕ) (e : Entry) → slice_get book.entries n ≡ Some e → settlement_key_at book.config book.period book.entries n ≡ key_in n e
  key_is n e at = ap (λ (o : Option Entry). unwrap_or (option_and_then (λ (d : Entry). earlier_key d.what) o) (settlement_key_of book.config book.period n)) at

  asked_at : (n : ℕ) (e : Entry) (a : Ask) → slice_get book.entries n ≡ Some e → as_ask e.what ≡ Some a → ask_at book.entries n ≡ Some a
  asked_at n e a at is = ap (option_and_then (λ (d : Entry). as_ask d.what)) at ∙ is

  -- two settlements have two keys
  apart : (k n : ℕ) (x e : Entry) (b a : Ask) → slice_get book.entries k ≡ Some x → slice_get book.entries n ≡ Some e → as_ask x.what ≡ Some b → as_ask e.what ≡ Some a
      → k < n → bytes_eq (key_in k x) (key_in n e) ≡ false
  apart k n x e b a at_k at_n is_k is_n before = test (bytes_eq (key_in k x) (key_in n e)) refl
    where
      test : (t : Bool) → bytes_eq (key_in k x) (key_in n e) ≡ t → t ≡ false
      test false is = refl
      test true is =
          let same : key_in k x ≡ key_in n e = (bytes_eq-Decides (key_in k x) (key_in n e)).0 is in
          let one = own_keys book k n b a valid lawful (asked_at k x b at_k is_k) (asked_at n e a at_n is_n) (key_is k x at_k ∙ same ∙ sym (key_is n e at_n)) in
          absurd (omega (arith, one, before))

  -- ---- openings and credits

  opened_keys : Each KeyRule (balances_brought_forward end.places book.entries)
  opened_keys =
      each-every (λ w. (before : List What) → KeyRule before w) KeyRule [] (balances_brought_forward end.places book.entries) (λ before w rule. rule before)
      (every-made (λ w. (before : List What) → KeyRule before w) (opened_at book.entries) 0 end.places (λ k old. one k (earlier_balance book.entries old)))
    where
      one : (k : ℕ) (b : ℤ) → IfSome (opening_of k b) (λ w. (before : List What) → KeyRule before w)
      one k (pos zero) = tt
      one k (pos (suc n)) = λ before. tt
      one k (negsuc n) = λ before. tt

  abbrev front : List What
  front = balances_brought_forward end.places book.entries ++ credits_brought_forward end.places book.entries

  known_keys : Each KeyRule front
  known_keys =
      each_made KeyRule (known_at end.places) (balances_brought_forward end.places book.entries) opened_keys book.entries
      (Each-each (KeepsRuleOf book) (λ done (e : Entry). IfSome (known_at end.places (length done) e) (KeyRule (balances_brought_forward end.places book.entries ++ filter_map_from (known_at end.places) 0 done))) book.entries
      (λ done e rule. credit (balances_brought_forward end.places book.entries ++ filter_map_from (known_at end.places) 0 done) (as_credit e.what) (credit_key book.config book.period book.base done e.moment e.what rule)) lawful.rules)
    where
      placed : (before : List What) (c : Credited) (o : Option ℕ) → IsKey c.key → IfSome (option_map (λ q. what.Known (credited_to q c)) o) (KeyRule before)
      placed before c None named = tt
      placed before c (Some q) named = named

      credit : (before : List What) (o : Option Credited) → IfSome o (λ (c : Credited). IsKey c.key)
          → IfSome (option_and_then (λ (c : Credited). option_map (λ q. what.Known (credited_to q c)) (next_place end.places c.peer)) o) (KeyRule before)
      credit before None named = tt
      credit before (Some c) named = placed before c (next_place end.places c.peer) named

  -- ---- settlements

  -- none before brings a settlement forward under the key
  module _ (key : List ℕ) where
    abbrev Other : What → Type 0
    Other w = (k : ℕ) → has_earlier_key key w ≡ false

    opened_other : (k : ℕ) (b : ℤ) → IfSome (opening_of k b) Other
    opened_other k (pos zero) = tt
    opened_other k (pos (suc n)) = λ i. refl
    opened_other k (negsuc n) = λ i. refl

    known_other : (o : Option Credited) → IfSome (option_and_then (λ (c : Credited). option_map (λ q. what.Known (credited_to q c)) (next_place end.places c.peer)) o) Other
    known_other None = tt
    known_other (Some c) = placed (next_place end.places c.peer)
      where
        placed : (o : Option ℕ) → IfSome (option_map (λ q. what.Known (credited_to q c)) o) Other
        placed None = tt
        placed (Some q) = λ i. refl

    front_other : Every Other front
    front_other =
        every-append Other (balances_brought_forward end.places book.entries) (credits_brought_forward end.places book.entries)
        (every-made Other (opened_at book.entries) 0 end.places (λ k old. opened_other k (earlier_balance book.entries old)))
        (every-made Other (known_at end.places) 0 book.entries (λ n e. known_other (as_credit e.what)))

    -- and none of the settlements before
    pending_other : (done : Entries) → ((k : ℕ) (x : Entry) (b : Ask) → slice_get done k ≡ Some x → as_ask x.what ≡ Some b → bytes_eq (key_in k x) key ≡ false)
        → Every Other (filter_map_from (pending_at end book.entries) 0 done)
    pending_other done differ = every_made_at Other (pending_at end book.entries) 0 done (λ k x at. one k x at (is_unclosed book.entries (0 + k)) (as_ask x.what) refl)
      where
        one : (k : ℕ) (x : Entry) → slice_get done k ≡ Some x → (t : Bool) (o : Option Ask) → as_ask x.what ≡ o
            → IfSome (cond t (option_and_then (λ (a : Ask). option_map (λ q. what.Pending q a.amount (settlement_key end.key_of (0 + k) x.what)) (next_place end.places a.peer)) o) None) Other
        one k x at false o is = tt
        one k x at true None is = tt
        one k x at true (Some b) is = placed (next_place end.places b.peer)
          where
            other : bytes_eq (settlement_key end.key_of (0 + k) x.what) key ≡ false
            other = ap (λ n. bytes_eq (settlement_key end.key_of n x.what) key) (zero-add k) ∙ differ k x b at is

            placed : (o : Option ℕ) → IfSome (option_map (λ q. what.Pending q b.amount (settlement_key end.key_of (0 + k) x.what)) o) Other
            placed None = tt
            placed (Some q) = λ i. other

    single : (done : Entries) → ((k : ℕ) (x : Entry) (b : Ask) → slice_get done k ≡ Some x → as_ask x.what ≡ Some b → bytes_eq (key_in k x) key ≡ false)
        → IsNone (heads.pending_at (map h (front ++ filter_map_from (pending_at end book.entries) 0 done)) key)
    single done differ =
        subst IsNone
        (sym (first_from-every_none (λ _ (e : Entry). has_earlier_key key e.what) 0 (map h (front ++ filter_map_from (pending_at end book.entries) 0 done))
        (every-map (λ (e : Entry). (k : ℕ) → has_earlier_key key e.what ≡ false) h (front ++ filter_map_from (pending_at end book.entries) 0 done)
        (every-append Other front (filter_map_from (pending_at end book.entries) 0 done) front_other (pending_other done differ))))) refl

  pending_keys : Each KeyRule (front ++ settlements_brought_forward end book.entries)
  pending_keys =
      each_made KeyRule (pending_at end book.entries) front known_keys book.entries
      (Each-each (Stands book.entries) (λ done (e : Entry). IfSome (pending_at end book.entries (length done) e) (KeyRule (front ++ filter_map_from (pending_at end book.entries) 0 done))) book.entries
      (λ done e stands. one done e stands (is_unclosed book.entries (length done)) (as_ask e.what) refl) (each_stands book.entries))
    where
      within : {X : Type 0} (xs : List X) (k : ℕ) (x : X) → slice_get xs k ≡ Some x → k < length xs
      within xs k x at = slice_get_within xs k x at

      one : (done : Entries) (e : Entry) → Stands book.entries done e → (t : Bool) (o : Option Ask) → as_ask e.what ≡ o
          → IfSome (cond t (option_and_then (λ (a : Ask). option_map (λ q. what.Pending q a.amount (settlement_key end.key_of (length done) e.what)) (next_place end.places a.peer)) o) None)
          (KeyRule (front ++ filter_map_from (pending_at end book.entries) 0 done))
      one done e stands false o is = tt
      one done e stands true None is = tt
      one done e stands true (Some a) is = placed (next_place end.places a.peer)
        where
          n : ℕ
          n = length done

          at : slice_get book.entries (length done) ≡ Some e
          at = stands.0

          there : ask_at book.entries (length done) ≡ Some a
          there = asked_at (length done) e a at is

          own : HasOwnKey next (book.period + 1) (map h (front ++ filter_map_from (pending_at end book.entries) 0 done)) (key_in (length done) e)
          own = record {
            named = subst IsKey (key_is (length done) e at) (key_named book (length done) a valid lawful there);
            visible = subst (λ (key : List ℕ). IsTrue (list_all is_key_octet key)) (key_is (length done) e at) (key_visible book (length done) a valid lawful there);
            single = single (key_in (length done) e) done (λ k x b at_k is_k. apart k (length done) x e b a (stands.1 k x at_k) at is_k is (within done k x at_k));
            earlier = subst (λ (key : List ℕ). ¬ (IsOfPeriodFrom next (book.period + 1) key)) (key_is (length done) e at) (key_earlier book (length done) a valid lawful there next run);
          }

          placed : (o : Option ℕ) → IfSome (option_map (λ q. what.Pending q a.amount (settlement_key end.key_of (length done) e.what)) o)
              (KeyRule (front ++ filter_map_from (pending_at end book.entries) 0 done))
          placed None = tt
          placed (Some q) = own

  -- each key in the head is a key of its own
  pub head_keys : Each (λ before (e : Entry). KeepsKeyRule next (book.period + 1) before e.what) (next_head book next now)
  unfolding brought_forward
  head_keys =
      each_map (λ before (e : Entry). KeepsKeyRule next (book.period + 1) before e.what) h [] _
      (subst (Each KeyRule) (append_assoc (balances_brought_forward end.places book.entries) (credits_brought_forward end.places book.entries) (settlements_brought_forward end book.entries)) pending_keys)

  -- ---- moments

  -- all are of the moment at which the books are closed
  moments : (ws : List What) → Every (λ (e : Entry). e.moment ≡ end.moment) (map h ws)
  moments [] = tt
  moments (w ∷ ws) = (refl, moments ws)

  pub head_moments : Every (λ (e : Entry). e.moment ≡ moment_at book.entries now) (next_head book next now)
  unfolding brought_forward
  head_moments = moments (balances_brought_forward end.places book.entries ++ (credits_brought_forward end.places book.entries ++ settlements_brought_forward end book.entries))

  pub head_in_time : Each IsInTime (next_head book next now)
  head_in_time =
      (timely (next_head book next now)
      (each-every (λ (e : Entry). e.moment ≡ moment_at book.entries now) (λ _ (e : Entry). e.moment ≡ moment_at book.entries now) [] (next_head book next now) (λ _ e is. is) head_moments)).0
    where
      closing : IsInTime book.entries (entry_by book (by 0 now) (what.Confirmed 0))
      closing = in_time book (by 0 now) (what.Confirmed 0) lawful

      step : (last m moment : ℤ) → last ≤ℤ m → moment ≡ m → last ≤ℤ moment
      step last m moment low is = omega (arith, ints, low, is)

      above : (m moment : ℤ) → moment ≡ m → pos 0 ≤ℤ m → pos 0 ≤ℤ moment
      above m moment is low = omega (arith, ints, low, is)

      below : (m moment : ℤ) → moment ≡ m → m ≤ℤ last_of_all → moment ≤ℤ last_of_all
      below m moment is high = omega (arith, ints, high, is)

      at_most : (last m : ℤ) → last ≡ m → last ≤ℤ m
      at_most last m is = omega (arith, ints, is)

      one : (xs : Entries) (e : Entry) → last_moment xs ≤ℤ moment_at book.entries now → e.moment ≡ moment_at book.entries now → IsInTime xs e
      one xs e low is = record {
        later = step (last_moment xs) (moment_at book.entries now) e.moment low is;
        first = above (moment_at book.entries now) e.moment is closing.first;
        last = below (moment_at book.entries now) e.moment is closing.last;
      }

      AllTimely : Entries → Type 0
      AllTimely xs = Each (λ _ (e : Entry). e.moment ≡ moment_at book.entries now) xs → Each IsInTime xs × (last_moment xs ≤ℤ moment_at book.entries now)

      more : (xs : Entries) (e : Entry) → AllTimely xs → AllTimely (xs ++ e ∷ [])
      more xs e before each =
          let parts : Each (λ _ (d : Entry). d.moment ≡ moment_at book.entries now) xs × (e.moment ≡ moment_at book.entries now) = Each-parts (λ _ (d : Entry). d.moment ≡ moment_at book.entries now) xs e each in
          let so_far : Each IsInTime xs × (last_moment xs ≤ℤ moment_at book.entries now) = before parts.0 in
          let last : last_moment (xs ++ e ∷ []) ≡ e.moment = fold_push (λ _ (d : Entry). d.moment) (pos 0) xs e in
          (Each-push IsInTime xs e so_far.0 (one xs e so_far.1 parts.1), at_most (last_moment (xs ++ e ∷ [])) (moment_at book.entries now) (last ∙ parts.1))

      timely : (xs : Entries) → AllTimely xs
      timely = by_push AllTimely (λ _. (tt, closing.first)) more
