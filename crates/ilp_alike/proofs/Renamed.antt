-- A journal whose peers have other places: what it owes, keeps and has open is the same, by the peers' places there.
use Rattle.std.proofs.Common.{◌≡◌, ℕ, ◌+◌, pos, ◌-ℤ◌, Bool, true, false, cond, ◌&&◌, List, [], ◌∷◌, ◌++◌, map, Option, Some, None, refl, sym, ap, ap₂, ◌∙◌, subst, arith, IfSome, IsSome, IsNone, is_none, sum_by, unwrap_or, option_map, option_and_then, slice_get, ◌==◌}
use Rattle.std.specs.Str.{bytes_eq}
use Rattle.std.specs.List.{cons_option}
use Rattle.std.proofs.lemmas.Bool.{eqb-true}
use Rattle.std.proofs.lemmas.List.{map-append}
use Rattle.std.proofs.lemmas.List.Folds.{fold-map}
use Rattle.std.proofs.lemmas.List.Sums.{sum_by-cons}
use Rattle.std.proofs.lemmas.Option.{slice_get-map}
use Rattle.ilp_order.specs.Places.{sum_from, first_from, EachAfter, Each}
use Rattle.ilp_journal.specs.declared.entry.Entry.{Entry}
use Rattle.ilp_journal.specs.declared.entry.What.{What}
use Rattle.ilp_journal.specs.declared.entry.What.TheVariants as what
use Rattle.ilp_journal.specs.declared.entry.Hold.{Hold}
use Rattle.ilp_journal.specs.declared.entry.Ask.{Ask}
use Rattle.ilp_journal.specs.declared.entry.Credited.{Credited}
use Rattle.ilp_journal.specs.Journal.{Entries, last_moment, as_hold, as_ask, answered, closed, is_number, hold_at, ask_at, answer_of, closing_of, is_unanswered, is_unclosed, open_hold_at, open_ask_at, of_ask, paid_to, open_asks, AnswersOnce, ClosesOnce}
use Rattle.ilp_journal.specs.Balance.{above, below, rise, fall, balance}
use Rattle.ilp_journal.specs.Credits.{as_credit, has_key, kept_credit, raising, lowering}
use Rattle.ilp_journal.specs.Made.{filter_map_from}
use Rattle.ilp_journal.specs.BroughtForward.{credited_to, earlier_key, earlier_key_at, settlement_key, settlement_to, open_settlements}
use Rattle.ilp_journal.proofs.Made.{made-none, sum_by-map, first_some, first_some-map, first_some-none, first_some-after, first_from_is}
use Rattle.ilp_alike.specs.Alike.{moved}

-- ---- lists that are made of other lists

sum_by-same : {X : Type 0} (f g : X → ℕ) (xs : List X) → ((x : X) → f x ≡ g x) → sum_by f xs ≡ sum_by g xs
sum_by-same f g [] same = refl
sum_by-same f g (x ∷ xs) same = omega (arith, sum_by-cons f x xs, sum_by-cons g x xs, same x, sum_by-same f g xs same)

sum_by-zero : {X : Type 0} (f : X → ℕ) (xs : List X) → ((x : X) → f x ≡ 0) → sum_by f xs ≡ 0
sum_by-zero f [] none = refl
sum_by-zero f (x ∷ xs) none = omega (arith, sum_by-cons f x xs, none x, sum_by-zero f xs none)

sum_from-map : {X Y : Type 0} (f : ℕ → Y → ℕ) (g : ℕ → X → ℕ) (h : X → Y) (n : ℕ) (xs : List X) → ((k : ℕ) (x : X) → f k (h x) ≡ g k x) → sum_from f n (map h xs) ≡ sum_from g n xs
sum_from-map f g h n [] same = refl
sum_from-map f g h n (x ∷ xs) same = ap₂ (λ a b. a + b) (same n x) (sum_from-map f g h (n + 1) xs same)

pub first_from-map : {X Y : Type 0} (one : ℕ → Y → Bool) (other : ℕ → X → Bool) (h : X → Y) (n : ℕ) (xs : List X) → ((k : ℕ) (x : X) → one k (h x) ≡ other k x) → first_from one n (map h xs) ≡ first_from other n xs
first_from-map one other h n [] same = refl
first_from-map one other h n (x ∷ xs) same = ap₂ (λ b rest. cond b (Some n) rest) (same n x) (first_from-map one other h (n + 1) xs same)

made-map : {X Y Z : Type 0} (f : ℕ → Y → Option Z) (g : ℕ → X → Option Z) (h : X → Y) (n : ℕ) (xs : List X) → ((k : ℕ) (x : X) → f k (h x) ≡ g k x) → filter_map_from f n (map h xs) ≡ filter_map_from g n xs
made-map f g h n [] same = refl
made-map f g h n (x ∷ xs) same = ap₂ cons_option (same n x) (made-map f g h (n + 1) xs same)

each-map : {X Y : Type 0} (P : List X → X → Type 0) (Q : List Y → Y → Type 0) (h : X → Y) (before xs : List X) → ((b : List X) (x : X) → P b x → Q (map h b) (h x)) → EachAfter P before xs
    → EachAfter Q (map h before) (map h xs)
each-map P Q h before [] step each = tt
each-map P Q h before (x ∷ xs) step each =
    (step before x each.0, subst (λ l. EachAfter Q l (map h xs)) (map-append h before (x ∷ [])) (each-map P Q h (before ++ x ∷ []) xs step each.1))

-- the credit, if it is the peer's and under the key
abbrev pub credit_under : ℕ → List ℕ → Option Credited → Option Credited
credit_under p key o = cond (unwrap_or (option_map (λ (c : Credited). (c.peer == p) && bytes_eq c.key key) o) false) o None

pub kept_credit_is : (j : Entries) (p : ℕ) (key : List ℕ) → kept_credit j p key ≡ first_some (λ (e : Entry). credit_under p key (as_credit e.what)) j
kept_credit_is j p key =
    first_from_is (λ (e : Entry). has_key p key e.what) (λ (e : Entry). as_credit e.what) j (λ e is. sure (as_credit e.what) is)
  where
    sure : (o : Option Credited) → unwrap_or (option_map (λ (c : Credited). (c.peer == p) && bytes_eq c.key key) o) false ≡ true → IsSome o
    sure None is = cc
    sure (Some c) is = refl

-- ---- a journal with other places

module _ (to : ℕ → ℕ) where
  abbrev pub moved_entry : Entry → Entry
  moved_entry e = record e { what = moved to e.what }

  abbrev pub renamed : Entries → Entries
  renamed j = map moved_entry j

  abbrev pub moved_hold : Hold → Hold
  moved_hold h = record h { from = to h.from; to = to h.to }

  abbrev pub moved_ask : Ask → Ask
  moved_ask a = record a { peer = to a.peer }

  abbrev pub moved_credit : Credited → Credited
  moved_credit c = credited_to (to c.peer) c

  as_hold-moved : (w : What) → as_hold (moved to w) ≡ option_map moved_hold (as_hold w)
  as_hold-moved (what.Hold h) = refl
  as_hold-moved (what.Fulfilled hold preimage) = refl
  as_hold-moved (what.Released hold cause) = refl
  as_hold-moved (what.Credited c) = refl
  as_hold-moved (what.Asked a) = refl
  as_hold-moved (what.Confirmed ask) = refl
  as_hold-moved (what.Undone ask) = refl
  as_hold-moved (what.Opened peer b) = refl
  as_hold-moved (what.Known c) = refl
  as_hold-moved (what.Pending peer amount key) = refl

  as_ask-moved : (w : What) → as_ask (moved to w) ≡ option_map moved_ask (as_ask w)
  as_ask-moved (what.Hold h) = refl
  as_ask-moved (what.Fulfilled hold preimage) = refl
  as_ask-moved (what.Released hold cause) = refl
  as_ask-moved (what.Credited c) = refl
  as_ask-moved (what.Asked a) = refl
  as_ask-moved (what.Confirmed ask) = refl
  as_ask-moved (what.Undone ask) = refl
  as_ask-moved (what.Opened peer b) = refl
  as_ask-moved (what.Known c) = refl
  as_ask-moved (what.Pending peer amount key) = refl

  as_credit-moved : (w : What) → as_credit (moved to w) ≡ option_map moved_credit (as_credit w)
  as_credit-moved (what.Hold h) = refl
  as_credit-moved (what.Fulfilled hold preimage) = refl
  as_credit-moved (what.Released hold cause) = refl
  as_credit-moved (what.Credited c) = refl
  as_credit-moved (what.Asked a) = refl
  as_credit-moved (what.Confirmed ask) = refl
  as_credit-moved (what.Undone ask) = refl
  as_credit-moved (what.Opened peer b) = refl
  as_credit-moved (what.Known c) = refl
  as_credit-moved (what.Pending peer amount key) = refl

  answered-moved : (w : What) → answered (moved to w) ≡ answered w
  answered-moved (what.Hold h) = refl
  answered-moved (what.Fulfilled hold preimage) = refl
  answered-moved (what.Released hold cause) = refl
  answered-moved (what.Credited c) = refl
  answered-moved (what.Asked a) = refl
  answered-moved (what.Confirmed ask) = refl
  answered-moved (what.Undone ask) = refl
  answered-moved (what.Opened peer b) = refl
  answered-moved (what.Known c) = refl
  answered-moved (what.Pending peer amount key) = refl

  closed-moved : (w : What) → closed (moved to w) ≡ closed w
  closed-moved (what.Hold h) = refl
  closed-moved (what.Fulfilled hold preimage) = refl
  closed-moved (what.Released hold cause) = refl
  closed-moved (what.Credited c) = refl
  closed-moved (what.Asked a) = refl
  closed-moved (what.Confirmed ask) = refl
  closed-moved (what.Undone ask) = refl
  closed-moved (what.Opened peer b) = refl
  closed-moved (what.Known c) = refl
  closed-moved (what.Pending peer amount key) = refl

  earlier_key-moved : (w : What) → earlier_key (moved to w) ≡ earlier_key w
  earlier_key-moved (what.Hold h) = refl
  earlier_key-moved (what.Fulfilled hold preimage) = refl
  earlier_key-moved (what.Released hold cause) = refl
  earlier_key-moved (what.Credited c) = refl
  earlier_key-moved (what.Asked a) = refl
  earlier_key-moved (what.Confirmed ask) = refl
  earlier_key-moved (what.Undone ask) = refl
  earlier_key-moved (what.Opened peer b) = refl
  earlier_key-moved (what.Known c) = refl
  earlier_key-moved (what.Pending peer amount key) = refl

  -- what stands at a place
  stands : {K L : Type 0} (there : What → Option L) (here : What → Option K) (h : K → L) → ((w : What) → there (moved to w) ≡ option_map h (here w)) → (j : Entries) (n : ℕ)
      → option_and_then (λ (e : Entry). there e.what) (slice_get (renamed j) n) ≡ option_map h (option_and_then (λ (e : Entry). here e.what) (slice_get j n))
  stands there here h same j n = ap (option_and_then (λ (e : Entry). there e.what)) (slice_get-map moved_entry j n) ∙ at (slice_get j n)
    where
      at : (o : Option Entry) → option_and_then (λ (e : Entry). there e.what) (option_map moved_entry o) ≡ option_map h (option_and_then (λ (e : Entry). here e.what) o)
      at None = refl
      at (Some e) = same e.what

  pub hold_at-renamed : (j : Entries) (n : ℕ) → hold_at (renamed j) n ≡ option_map moved_hold (hold_at j n)
  hold_at-renamed j n = stands as_hold as_hold moved_hold as_hold-moved j n

  pub ask_at-renamed : (j : Entries) (n : ℕ) → ask_at (renamed j) n ≡ option_map moved_ask (ask_at j n)
  ask_at-renamed j n = stands as_ask as_ask moved_ask as_ask-moved j n

  pub earlier_key_at-renamed : (j : Entries) (n : ℕ) → earlier_key_at (renamed j) n ≡ earlier_key_at j n
  earlier_key_at-renamed j n = stands earlier_key earlier_key (λ key. key) (λ w. earlier_key-moved w ∙ same (earlier_key w)) j n ∙ sym (same (earlier_key_at j n))
    where
      same : (o : Option (List ℕ)) → o ≡ option_map (λ key. key) o
      same None = refl
      same (Some key) = refl

  -- what names what
  pub answer_of-renamed : (j : Entries) (n : ℕ) → answer_of (renamed j) n ≡ answer_of j n
  answer_of-renamed j n = first_from-map (λ _ (e : Entry). is_number n (answered e.what)) (λ _ (e : Entry). is_number n (answered e.what)) moved_entry 0 j (λ k e. ap (is_number n) (answered-moved e.what))

  pub closing_of-renamed : (j : Entries) (n : ℕ) → closing_of (renamed j) n ≡ closing_of j n
  closing_of-renamed j n = first_from-map (λ _ (e : Entry). is_number n (closed e.what)) (λ _ (e : Entry). is_number n (closed e.what)) moved_entry 0 j (λ k e. ap (is_number n) (closed-moved e.what))

  under : {K L : Type 0} (h : K → L) (b : Bool) (o : Option K) → cond b (option_map h o) None ≡ option_map h (cond b o None)
  under h true o = refl
  under h false o = refl

  pub open_hold_at-renamed : (j : Entries) (n : ℕ) → open_hold_at (renamed j) n ≡ option_map moved_hold (open_hold_at j n)
  open_hold_at-renamed j n = ap₂ (λ b o. cond b o None) (ap is_none (answer_of-renamed j n)) (hold_at-renamed j n) ∙ under moved_hold (is_unanswered j n) (hold_at j n)

  pub open_ask_at-renamed : (j : Entries) (n : ℕ) → open_ask_at (renamed j) n ≡ option_map moved_ask (open_ask_at j n)
  open_ask_at-renamed j n = ap₂ (λ b o. cond b o None) (ap is_none (closing_of-renamed j n)) (ask_at-renamed j n) ∙ under moved_ask (is_unclosed j n) (ask_at j n)

  some_map : {K L : Type 0} (h : K → L) (o : Option K) → IsSome o → IsSome (option_map h o)
  some_map h None s = cc
  some_map h (Some x) s = refl

  pub answers_once-renamed : (j : Entries) → Each AnswersOnce j → Each AnswersOnce (renamed j)
  answers_once-renamed j each = each-map AnswersOnce AnswersOnce moved_entry [] j step each
    where
      named : (b : Entries) (o : Option ℕ) → IfSome o (λ n. IsSome (hold_at b n) × IsNone (answer_of b n)) → IfSome o (λ n. IsSome (hold_at (renamed b) n) × IsNone (answer_of (renamed b) n))
      named b None h = tt
      named b (Some n) h = (subst IsSome (sym (hold_at-renamed b n)) (some_map moved_hold (hold_at b n) h.0), subst IsNone (sym (answer_of-renamed b n)) h.1)

      step : (b : Entries) (e : Entry) → AnswersOnce b e → AnswersOnce (renamed b) (moved_entry e)
      step b e once = subst (λ o. IfSome o (λ n. IsSome (hold_at (renamed b) n) × IsNone (answer_of (renamed b) n))) (sym (answered-moved e.what)) (named b (answered e.what) once)

  pub closes_once-renamed : (j : Entries) → Each ClosesOnce j → Each ClosesOnce (renamed j)
  closes_once-renamed j each = each-map ClosesOnce ClosesOnce moved_entry [] j step each
    where
      named : (b : Entries) (o : Option ℕ) → IfSome o (λ n. IsSome (ask_at b n) × IsNone (closing_of b n)) → IfSome o (λ n. IsSome (ask_at (renamed b) n) × IsNone (closing_of (renamed b) n))
      named b None h = tt
      named b (Some n) h = (subst IsSome (sym (ask_at-renamed b n)) (some_map moved_ask (ask_at b n) h.0), subst IsNone (sym (closing_of-renamed b n)) h.1)

      step : (b : Entries) (e : Entry) → ClosesOnce b e → ClosesOnce (renamed b) (moved_entry e)
      step b e once = subst (λ o. IfSome o (λ n. IsSome (ask_at (renamed b) n) × IsNone (closing_of (renamed b) n))) (sym (closed-moved e.what)) (named b (closed e.what) once)

  -- the last moment
  pub last_moment-renamed : (j : Entries) → last_moment (renamed j) ≡ last_moment j
  last_moment-renamed j = fold-map (λ _ (e : Entry). e.moment) moved_entry (pos 0) j

  -- ---- the peer that comes to the place q is p

  module _ (p q : ℕ) (same : (r : ℕ) → (to r == q) ≡ (r == p)) where
    of_hold_there : (f : Hold → ℕ) (g : Hold → ℕ) → ((h : Hold) → f (moved_hold h) ≡ g h) → (j : Entries) (n : ℕ) → unwrap_or (option_map f (hold_at (renamed j) n)) 0 ≡ unwrap_or (option_map g (hold_at j n)) 0
    of_hold_there f g is j n = ap (λ o. unwrap_or (option_map f o) 0) (hold_at-renamed j n) ∙ at (hold_at j n)
      where
        at : (o : Option Hold) → unwrap_or (option_map f (option_map moved_hold o)) 0 ≡ unwrap_or (option_map g o) 0
        at None = refl
        at (Some h) = is h

    of_ask_there : (f : Ask → ℕ) (g : Ask → ℕ) → ((a : Ask) → f (moved_ask a) ≡ g a) → (j : Entries) (n : ℕ) → unwrap_or (option_map f (ask_at (renamed j) n)) 0 ≡ unwrap_or (option_map g (ask_at j n)) 0
    of_ask_there f g is j n = ap (λ o. unwrap_or (option_map f o) 0) (ask_at-renamed j n) ∙ at (ask_at j n)
      where
        at : (o : Option Ask) → unwrap_or (option_map f (option_map moved_ask o)) 0 ≡ unwrap_or (option_map g o) 0
        at None = refl
        at (Some a) = is a

    rise-moved : (j : Entries) (w : What) → rise (renamed j) q (moved to w) ≡ rise j p w
    rise-moved j (what.Hold h) = refl
    rise-moved j (what.Fulfilled hold preimage) = of_hold_there (λ (h : Hold). cond (h.to == q) h.out 0) (λ (h : Hold). cond (h.to == p) h.out 0) (λ h. ap (λ b. cond b h.out 0) (same h.to)) j hold
    rise-moved j (what.Released hold cause) = of_hold_there (λ (h : Hold). cond (h.from == q) h.amount 0) (λ (h : Hold). cond (h.from == p) h.amount 0) (λ h. ap (λ b. cond b h.amount 0) (same h.from)) j hold
    rise-moved j (what.Credited c) = ap (λ t. cond t (raising c.kind c.credited) 0) (same c.peer)
    rise-moved j (what.Asked a) = refl
    rise-moved j (what.Confirmed ask) = refl
    rise-moved j (what.Undone ask) = of_ask_there (λ (a : Ask). cond (a.peer == q) a.amount 0) (λ (a : Ask). cond (a.peer == p) a.amount 0) (λ a. ap (λ b. cond b a.amount 0) (same a.peer)) j ask
    rise-moved j (what.Opened peer b) = ap (λ t. cond t (above b) 0) (same peer)
    rise-moved j (what.Known c) = refl
    rise-moved j (what.Pending peer amount key) = refl

    fall-moved : (w : What) → fall q (moved to w) ≡ fall p w
    fall-moved (what.Hold h) = ap (λ t. cond t h.amount 0) (same h.from)
    fall-moved (what.Fulfilled hold preimage) = refl
    fall-moved (what.Released hold cause) = refl
    fall-moved (what.Credited c) = ap (λ t. cond t (lowering c.kind c.credited) 0) (same c.peer)
    fall-moved (what.Asked a) = ap (λ t. cond t a.amount 0) (same a.peer)
    fall-moved (what.Confirmed ask) = refl
    fall-moved (what.Undone ask) = refl
    fall-moved (what.Opened peer b) = ap (λ t. cond t (below b) 0) (same peer)
    fall-moved (what.Known c) = refl
    fall-moved (what.Pending peer amount key) = refl

    -- the balance is the same
    pub balance-renamed : (j : Entries) → balance (renamed j) q ≡ balance j p
    unfolding balance
    balance-renamed j =
        ap₂ (λ a b. pos a -ℤ pos b)
        (sum_by-map (λ (e : Entry). rise (renamed j) q e.what) moved_entry j ∙ sum_by-same (λ (e : Entry). rise (renamed j) q (moved to e.what)) (λ (e : Entry). rise j p e.what) j (λ e. rise-moved j e.what))
        (sum_by-map (λ (e : Entry). fall q e.what) moved_entry j ∙ sum_by-same (λ (e : Entry). fall q (moved to e.what)) (λ (e : Entry). fall p e.what) j (λ e. fall-moved e.what))

    -- as many settlements are open
    pub open_asks-renamed : (j : Entries) → open_asks (renamed j) q ≡ open_asks j p
    unfolding open_asks
    open_asks-renamed j =
        sum_from-map (λ n (e : Entry). cond (is_unclosed (renamed j) n) (of_ask (paid_to q) e.what) 0) (λ n (e : Entry). cond (is_unclosed j n) (of_ask (paid_to p) e.what) 0) moved_entry 0 j
        (λ n e. ap₂ (λ b x. cond b x 0) (ap is_none (closing_of-renamed j n)) (ap (λ o. unwrap_or (option_map (paid_to q) o) 0) (as_ask-moved e.what) ∙ paid (as_ask e.what)))
      where
        paid : (o : Option Ask) → unwrap_or (option_map (paid_to q) (option_map moved_ask o)) 0 ≡ unwrap_or (option_map (paid_to p) o) 0
        paid None = refl
        paid (Some a) = ap (λ b. cond b 1 0) (same a.peer)

    -- and the same are, under keys that are the same for each number
    pub open_settlements-renamed : (key_there key_of : ℕ → List ℕ) → ((n : ℕ) → key_there n ≡ key_of n) → (j : Entries) → open_settlements key_there (renamed j) q ≡ open_settlements key_of j p
    unfolding open_settlements
    open_settlements-renamed key_there key_of keys j =
        made-map (λ n (e : Entry). cond (is_unclosed (renamed j) n) (settlement_to key_there q n e.what) None) (λ n (e : Entry). cond (is_unclosed j n) (settlement_to key_of p n e.what) None) moved_entry 0 j
        (λ n e. ap₂ (λ b x. cond b x None) (ap is_none (closing_of-renamed j n)) (settled n e.what))
      where
        paid : (o : Option Ask) (key word : List ℕ) → key ≡ word
            → ◌≡◌ {A = Option (ℕ × List ℕ)} (option_and_then (λ (a : Ask). cond (a.peer == q) (Some (a.amount, key)) None) (option_map moved_ask o)) (option_and_then (λ (a : Ask). cond (a.peer == p) (Some (a.amount, word)) None) o)
        paid None key word is = refl
        paid (Some a) key word is = ap₂ (λ b (k : List ℕ). cond b (Some (a.amount, k)) None) (same a.peer) is

        settled : (n : ℕ) (w : What) → settlement_to key_there q n (moved to w) ≡ settlement_to key_of p n w
        settled n w =
            ap (option_and_then (λ (a : Ask). cond (a.peer == q) (Some (a.amount, settlement_key key_there n (moved to w))) None)) (as_ask-moved w)
            ∙ paid (as_ask w) (settlement_key key_there n (moved to w)) (settlement_key key_of n w) (ap₂ (λ (o : Option (List ℕ)) (k : List ℕ). unwrap_or o k) (earlier_key-moved w) (keys n))

    -- the credit under a key is the same
    pub kept_credit-renamed : (j : Entries) (key : List ℕ) → kept_credit (renamed j) q key ≡ option_map (credited_to q) (kept_credit j p key)
    kept_credit-renamed j key =
        kept_credit_is (renamed j) q key ∙ first_some-map (λ (e : Entry). credit_under q key (as_credit e.what)) moved_entry j
        ∙ first_some-after (credited_to q) (λ (e : Entry). credit_under p key (as_credit e.what)) (λ (e : Entry). credit_under q key (as_credit (moved to e.what))) j
        (λ e. ap (credit_under q key) (as_credit-moved e.what) ∙ of (as_credit e.what))
        ∙ ap (option_map (credited_to q)) (sym (kept_credit_is j p key))
      where
        of : (o : Option Credited) → credit_under q key (option_map moved_credit o) ≡ option_map (credited_to q) (credit_under p key o)
        of None = refl
        of (Some c) = by (c.peer == p) (same c.peer)
          where
            keyed : (b : Bool) → to c.peer ≡ q → cond b (Some (credited_to (to c.peer) c)) None ≡ option_map (credited_to q) (cond b (Some c) None)
            keyed true is = ap (λ r. Some (credited_to r c)) is
            keyed false is = refl

            by : (b : Bool) → (to c.peer == q) ≡ b → cond ((to c.peer == q) && bytes_eq c.key key) (Some (credited_to (to c.peer) c)) None ≡ option_map (credited_to q) (cond (b && bytes_eq c.key key) (Some c) None)
            by true is = ap (λ t. cond (t && bytes_eq c.key key) (Some (credited_to (to c.peer) c)) None) is ∙ keyed (bytes_eq c.key key) (eqb-true (to c.peer) q is)
            by false is = ap (λ t. cond (t && bytes_eq c.key key) (Some (credited_to (to c.peer) c)) None) is

  -- ---- no peer comes to the place q

  module _ (q : ℕ) (never : (r : ℕ) → (to r == q) ≡ false) where
    no_hold : (f : Hold → ℕ) → ((h : Hold) → f (moved_hold h) ≡ 0) → (j : Entries) (n : ℕ) → unwrap_or (option_map f (hold_at (renamed j) n)) 0 ≡ 0
    no_hold f is j n = ap (λ o. unwrap_or (option_map f o) 0) (hold_at-renamed j n) ∙ at (hold_at j n)
      where
        at : (o : Option Hold) → unwrap_or (option_map f (option_map moved_hold o)) 0 ≡ 0
        at None = refl
        at (Some h) = is h

    no_ask : (f : Ask → ℕ) → ((a : Ask) → f (moved_ask a) ≡ 0) → (j : Entries) (n : ℕ) → unwrap_or (option_map f (ask_at (renamed j) n)) 0 ≡ 0
    no_ask f is j n = ap (λ o. unwrap_or (option_map f o) 0) (ask_at-renamed j n) ∙ at (ask_at j n)
      where
        at : (o : Option Ask) → unwrap_or (option_map f (option_map moved_ask o)) 0 ≡ 0
        at None = refl
        at (Some a) = is a

    no_rise : (j : Entries) (w : What) → rise (renamed j) q (moved to w) ≡ 0
    no_rise j (what.Hold h) = refl
    no_rise j (what.Fulfilled hold preimage) = no_hold (λ (h : Hold). cond (h.to == q) h.out 0) (λ h. ap (λ b. cond b h.out 0) (never h.to)) j hold
    no_rise j (what.Released hold cause) = no_hold (λ (h : Hold). cond (h.from == q) h.amount 0) (λ h. ap (λ b. cond b h.amount 0) (never h.from)) j hold
    no_rise j (what.Credited c) = ap (λ t. cond t (raising c.kind c.credited) 0) (never c.peer)
    no_rise j (what.Asked a) = refl
    no_rise j (what.Confirmed ask) = refl
    no_rise j (what.Undone ask) = no_ask (λ (a : Ask). cond (a.peer == q) a.amount 0) (λ a. ap (λ b. cond b a.amount 0) (never a.peer)) j ask
    no_rise j (what.Opened peer b) = ap (λ t. cond t (above b) 0) (never peer)
    no_rise j (what.Known c) = refl
    no_rise j (what.Pending peer amount key) = refl

    no_fall : (w : What) → fall q (moved to w) ≡ 0
    no_fall (what.Hold h) = ap (λ t. cond t h.amount 0) (never h.from)
    no_fall (what.Fulfilled hold preimage) = refl
    no_fall (what.Released hold cause) = refl
    no_fall (what.Credited c) = ap (λ t. cond t (lowering c.kind c.credited) 0) (never c.peer)
    no_fall (what.Asked a) = ap (λ t. cond t a.amount 0) (never a.peer)
    no_fall (what.Confirmed ask) = refl
    no_fall (what.Undone ask) = refl
    no_fall (what.Opened peer b) = ap (λ t. cond t (below b) 0) (never peer)
    no_fall (what.Known c) = refl
    no_fall (what.Pending peer amount key) = refl

    pub balance-nobody : (j : Entries) → balance (renamed j) q ≡ pos 0
    unfolding balance
    balance-nobody j =
        ap₂ (λ a b. pos a -ℤ pos b)
        (sum_by-map (λ (e : Entry). rise (renamed j) q e.what) moved_entry j ∙ sum_by-zero (λ (e : Entry). rise (renamed j) q (moved to e.what)) j (λ e. no_rise j e.what))
        (sum_by-map (λ (e : Entry). fall q e.what) moved_entry j ∙ sum_by-zero (λ (e : Entry). fall q (moved to e.what)) j (λ e. no_fall e.what))

    pub open_asks-nobody : (j : Entries) → open_asks (renamed j) q ≡ 0
    unfolding open_asks
    open_asks-nobody j =
        sum_from-map (λ n (e : Entry). cond (is_unclosed (renamed j) n) (of_ask (paid_to q) e.what) 0) (λ n (e : Entry). 0) moved_entry 0 j
        (λ n e. ap (λ x. cond (is_unclosed (renamed j) n) x 0) (ap (λ o. unwrap_or (option_map (paid_to q) o) 0) (as_ask-moved e.what) ∙ paid (as_ask e.what)) ∙ either (is_unclosed (renamed j) n))
        ∙ zeros 0 j
      where
        paid : (o : Option Ask) → unwrap_or (option_map (paid_to q) (option_map moved_ask o)) 0 ≡ 0
        paid None = refl
        paid (Some a) = ap (λ b. cond b 1 0) (never a.peer)

        either : (b : Bool) → ◌≡◌ {A = ℕ} (cond b 0 0) 0
        either true = refl
        either false = refl

        zeros : (n : ℕ) (xs : Entries) → sum_from (λ k (e : Entry). 0) n xs ≡ 0
        zeros n [] = refl
        zeros n (x ∷ xs) = omega (arith, zeros (n + 1) xs)

    pub open_settlements-nobody : (key_there : ℕ → List ℕ) (j : Entries) → open_settlements key_there (renamed j) q ≡ []
    unfolding open_settlements
    open_settlements-nobody key_there j =
        made-map (λ n (e : Entry). cond (is_unclosed (renamed j) n) (settlement_to key_there q n e.what) None) (λ n (e : Entry). None) moved_entry 0 j
        (λ n e. ap (λ x. cond (is_unclosed (renamed j) n) x None) (ap (option_and_then (λ (a : Ask). cond (a.peer == q) (Some (a.amount, settlement_key key_there n (moved to e.what))) None)) (as_ask-moved e.what) ∙ paid (as_ask e.what) (settlement_key key_there n (moved to e.what))) ∙ either (is_unclosed (renamed j) n))
        ∙ made-none (λ n (e : Entry). None) 0 j (λ n e. refl)
      where
        paid : (o : Option Ask) (key : List ℕ) → ◌≡◌ {A = Option (ℕ × List ℕ)} (option_and_then (λ (a : Ask). cond (a.peer == q) (Some (a.amount, key)) None) (option_map moved_ask o)) None
        paid None key = refl
        paid (Some a) key = ap (λ b. cond b (Some (a.amount, key)) None) (never a.peer)

        either : (b : Bool) → ◌≡◌ {A = Option (ℕ × List ℕ)} (cond b None None) None
        either true = refl
        either false = refl

    pub kept_credit-nobody : (j : Entries) (key : List ℕ) → kept_credit (renamed j) q key ≡ None
    kept_credit-nobody j key =
        kept_credit_is (renamed j) q key ∙ first_some-map (λ (e : Entry). credit_under q key (as_credit e.what)) moved_entry j
        ∙ first_some-none (λ (e : Entry). credit_under q key (as_credit (moved to e.what))) j (λ e. ap (credit_under q key) (as_credit-moved e.what) ∙ of (as_credit e.what))
      where
        of : (o : Option Credited) → credit_under q key (option_map moved_credit o) ≡ None
        of None = refl
        of (Some c) = ap (λ t. cond (t && bytes_eq c.key key) (Some (credited_to (to c.peer) c)) None) (never c.peer)
