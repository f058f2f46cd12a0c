-- A head, entry by entry: a balance is 0 until it is opened, and from then on what was brought forward.
use Rattle.std.proofs.Common.{◌≡◌, ◌⊎◌, inl, inr, ℕ, zero, suc, ℤ, pos, negsuc, ◌-ℤ◌, Bool, true, false, cond, List, [], ◌∷◌, ◌++◌, map, length, Option, Some, None, refl, sym, ap, ap₂, ◌∙◌, subst, arith, zero-add, append-nil, append_assoc, IfSome, sum_by, unwrap_or, option_map, option_and_then, slice_get, ◌==◌}
use Rattle.std.specs.List.{cons_option}
use Rattle.std.proofs.lemmas.List.{map-append}
use Rattle.std.proofs.lemmas.List.Sums.{sum_by-append}
use Rattle.ilp_journal.specs.declared.entry.Entry.{Entry}
use Rattle.ilp_journal.specs.declared.entry.What.{What}
use Rattle.ilp_journal.specs.declared.entry.What.TheVariants as what
use Rattle.ilp_journal.specs.declared.entry.Ask.{Ask}
use Rattle.ilp_journal.specs.declared.entry.Credited.{Credited}
use Rattle.ilp_order.specs.Places.{EachAfter, Each}
use Rattle.ilp_journal.specs.Made.{filter_map_from}
use Rattle.ilp_journal.specs.Journal.{Entries, as_ask, is_unclosed}
use Rattle.ilp_journal.specs.Balance.{above, below, rise, fall, balance}
use Rattle.ilp_journal.specs.Credits.{as_credit}
use Rattle.ilp_journal.specs.BroughtForward.{EarlierPlaces, PeriodEnd, next_place, earlier_place, head_entry, earlier_balance, opening_of, balances_brought_forward, credited_to, credits_brought_forward, settlement_key, settlements_brought_forward, brought_forward}
use Rattle.ilp_order.proofs.Sums.{by_push, Each-push, Each-each, sum_from-same, slice_get-append}
use Rattle.ilp_journal.proofs.Made.{sum_by-made, sum_by-map, sum_by-every_same, Every, every-append, every-made}
use Rattle.ilp_journal.proofs.Heads.{opened_at, known_at, pending_at, of_peer, zero_or_zero, net, balance_brought_forward}
use Rattle.ilp_journal.proofs.HeadRules.{made-push, each_made, each_map}

-- each element stands behind those before it, and before the rest
each_front : {X : Type 0} (xs : List X) → Each (λ done x. (rest : List X) × (xs ≡ (done ++ x ∷ []) ++ rest)) xs
each_front {X} = by_push (λ xs. Each (Front xs) xs) tt one_more
  where
    Front : List X → List X → X → Type 0
    Front xs done x = (rest : List X) × (xs ≡ (done ++ x ∷ []) ++ rest)

    one_more : (xs : List X) (x : X) → Each (Front xs) xs → Each (Front (xs ++ x ∷ [])) (xs ++ x ∷ [])
    one_more xs x each =
        Each-push (Front (xs ++ x ∷ [])) xs x
        (Each-each (Front xs) (Front (xs ++ x ∷ [])) xs
        (λ done y f. (f.0 ++ x ∷ [], ap (λ l. l ++ x ∷ []) f.1 ∙ append_assoc (done ++ y ∷ []) f.0 (x ∷ []))) each)
        ([], sym (append-nil (xs ++ x ∷ [])))

-- what holds always holds of each
each_always : {X : Type 0} (P : List X → X → Type 0) (before xs : List X) → ((b : List X) (x : X) → P b x) → EachAfter P before xs
each_always P before [] all = tt
each_always P before (x ∷ xs) all = (all before x, each_always P (before ++ x ∷ []) xs all)

module _ (end : PeriodEnd) (j : Entries) (q : ℕ) where
  abbrev h : What → Entry
  h w = head_entry end.moment w

  -- it names nothing that would be looked up
  abbrev Plain : What → Type 0
  Plain w = (k : Entries) → rise k q w ≡ rise [] q w

  -- and moves no balance at all
  abbrev Quiet : What → Type 0
  Quiet w = Plain w × (rise [] q w ≡ 0) × (fall q w ≡ 0)

  -- the balance of a part of a head
  balance_of_part : (ws : List What) → Every Plain ws → balance (map h ws) q ≡ pos (sum_by (λ w. rise [] q w) ws) -ℤ pos (sum_by (λ w. fall q w) ws)
  unfolding balance
  balance_of_part ws plain =
      ap₂ (λ m n. pos m -ℤ pos n)
      (sum_by-map (λ (e : Entry). rise (map h ws) q e.what) h ws ∙ sum_by-every_same (λ w. rise (map h ws) q w) (λ w. rise [] q w) ws (here ws (map h ws) plain))
      (sum_by-map (λ (e : Entry). fall q e.what) h ws)
    where
      here : (vs : List What) (k : Entries) → Every Plain vs → Every (λ w. rise k q w ≡ rise [] q w) vs
      here [] k p = tt
      here (w ∷ vs) k p = (p.0 k, here vs k p.1)

  -- openings are plain
  opened_plain : (k : ℕ) (b : ℤ) → IfSome (opening_of k b) Plain
  opened_plain k (pos zero) = tt
  opened_plain k (pos (suc n)) = λ _. refl
  opened_plain k (negsuc n) = λ _. refl

  openings_plain : (places : EarlierPlaces) → Every Plain (balances_brought_forward places j)
  openings_plain places = every-made Plain (opened_at j) 0 places (λ k old. opened_plain k (earlier_balance j old))

  -- what the openings of some places raise and lower
  raised_to : (places : EarlierPlaces) → sum_by (λ w. rise [] q w) (balances_brought_forward places j) ≡ above (earlier_balance j (earlier_place places q))
  raised_to places =
      sum_by-made (λ w. rise [] q w) (opened_at j) 0 places
      ∙ sum_from-same _ (λ k old. cond (k == q) (above (earlier_balance j old)) 0) 0 places (λ k old. one k (earlier_balance j old))
      ∙ of_peer above refl places j q
    where
      one : (k : ℕ) (b : ℤ) → unwrap_or (option_map (λ w. rise [] q w) (opening_of k b)) 0 ≡ cond (k == q) (above b) 0
      one k (pos zero) = zero_or_zero (k == q)
      one k (pos (suc n)) = refl
      one k (negsuc n) = refl

  lowered_to : (places : EarlierPlaces) → sum_by (λ w. fall q w) (balances_brought_forward places j) ≡ below (earlier_balance j (earlier_place places q))
  lowered_to places =
      sum_by-made (λ w. fall q w) (opened_at j) 0 places
      ∙ sum_from-same _ (λ k old. cond (k == q) (below (earlier_balance j old)) 0) 0 places (λ k old. one k (earlier_balance j old))
      ∙ of_peer below refl places j q
    where
      one : (k : ℕ) (b : ℤ) → unwrap_or (option_map (λ w. fall q w) (opening_of k b)) 0 ≡ cond (k == q) (below b) 0
      one k (pos zero) = zero_or_zero (k == q)
      one k (pos (suc n)) = refl
      one k (negsuc n) = refl

  -- the balance behind the openings of some places
  balance_opened : (places : EarlierPlaces) → balance (map h (balances_brought_forward places j)) q ≡ earlier_balance j (earlier_place places q)
  balance_opened places =
      balance_of_part (balances_brought_forward places j) (openings_plain places)
      ∙ ap₂ (λ m n. pos m -ℤ pos n) (raised_to places) (lowered_to places) ∙ net (earlier_balance j (earlier_place places q))

  -- and behind all openings and what is quiet
  balance_quiet : (ws : List What) → Every Quiet ws → balance (map h (balances_brought_forward end.places j ++ ws)) q ≡ balance (brought_forward end j) q
  balance_quiet ws quiet =
      let raised : sum_by (λ w. rise [] q w) (balances_brought_forward end.places j ++ ws) ≡ above (earlier_balance j (earlier_place end.places q))
      = omega (arith, sum_by-append (λ w. rise [] q w) (balances_brought_forward end.places j) ws, nothing_up ws quiet, raised_to end.places) in
      let lowered : sum_by (λ w. fall q w) (balances_brought_forward end.places j ++ ws) ≡ below (earlier_balance j (earlier_place end.places q))
      = omega (arith, sum_by-append (λ w. fall q w) (balances_brought_forward end.places j) ws, nothing_down ws quiet, lowered_to end.places) in
      balance_of_part (balances_brought_forward end.places j ++ ws) (every-append Plain (balances_brought_forward end.places j) ws (openings_plain end.places) (plain ws quiet))
      ∙ ap₂ (λ m n. pos m -ℤ pos n) raised lowered
      ∙ net (earlier_balance j (earlier_place end.places q))
      ∙ sym (balance_brought_forward end j q)
    where
      plain : (vs : List What) → Every Quiet vs → Every Plain vs
      plain [] p = tt
      plain (w ∷ vs) p = (p.0.0, plain vs p.1)

      up : (vs : List What) → Every Quiet vs → Every (λ w. rise [] q w ≡ 0) vs
      up [] p = tt
      up (w ∷ vs) p = (p.0.1, up vs p.1)

      down : (vs : List What) → Every Quiet vs → Every (λ w. fall q w ≡ 0) vs
      down [] p = tt
      down (w ∷ vs) p = (p.0.2, down vs p.1)

      zeros : (vs : List What) → sum_by (λ (_ : What). 0) vs ≡ 0
      zeros [] = refl
      zeros (w ∷ vs) = zeros vs

      nothing_up : (vs : List What) → Every Quiet vs → sum_by (λ w. rise [] q w) vs ≡ 0
      nothing_up vs p = sum_by-every_same (λ w. rise [] q w) (λ _. 0) vs (up vs p) ∙ zeros vs

      nothing_down : (vs : List What) → Every Quiet vs → sum_by (λ w. fall q w) vs ≡ 0
      nothing_down vs p = sum_by-every_same (λ w. fall q w) (λ _. 0) vs (down vs p) ∙ zeros vs

  -- the balance is 0, or what was brought forward
  abbrev Reached : ℤ → Type 0
  Reached b = (b ≡ pos 0) ⊎ (b ≡ balance (brought_forward end j) q)

  abbrev Step : List What → What → Type 0
  Step before w = Reached (balance (map h before ++ h w ∷ []) q)

  step_by : (before : List What) (w : What) → Reached (balance (map h (before ++ w ∷ [])) q) → Step before w
  step_by before w = subst (λ l. Reached (balance l q)) (map-append h before (w ∷ []))

  openings : Each Step (balances_brought_forward end.places j)
  openings =
      each_made Step (opened_at j) [] tt end.places
      (Each-each (λ done old. (rest : EarlierPlaces) × (end.places ≡ (done ++ old ∷ []) ++ rest)) _ end.places
      (λ done old front. one done old front.0 front.1 (opening_of (length done) (earlier_balance j old)) refl) (each_front end.places))
    where
      reached : (places rest : EarlierPlaces) → end.places ≡ places ++ rest → (o : Option (Option ℕ)) → slice_get places q ≡ o → Reached (earlier_balance j (earlier_place places q))
      reached places rest is None at = inl (ap (λ o. earlier_balance j (option_and_then (λ (old : Option ℕ). old) o)) at)
      reached places rest is (Some old) at =
          let stays : slice_get end.places q ≡ slice_get places q = ap (λ l. slice_get l q) is ∙ slice_get-append places rest q (rw at refl) in
          inr (sym (balance_brought_forward end j q ∙ ap (λ o. earlier_balance j (option_and_then (λ (old : Option ℕ). old) o)) stays))

      one : (done : EarlierPlaces) (old : Option ℕ) (rest : EarlierPlaces) → end.places ≡ (done ++ old ∷ []) ++ rest → (o : Option What) → opening_of (length done) (earlier_balance j old) ≡ o
          → IfSome o (Step ([] ++ filter_map_from (opened_at j) 0 done))
      one done old rest is None at = tt
      one done old rest is (Some w) at =
          let more : balances_brought_forward (done ++ old ∷ []) j ≡ filter_map_from (opened_at j) 0 done ++ w ∷ []
          = made-push (opened_at j) 0 done old
          ∙ ap (λ k. filter_map_from (opened_at j) 0 done ++ cons_option (opened_at j k old) []) (zero-add (length done))
          ∙ ap (λ o. filter_map_from (opened_at j) 0 done ++ cons_option o []) at in
          step_by (filter_map_from (opened_at j) 0 done) w
          (subst (λ l. Reached (balance (map h l) q)) more (subst Reached (sym (balance_opened (done ++ old ∷ []))) (reached (done ++ old ∷ []) rest is (slice_get (done ++ old ∷ []) q) refl)))

  -- what is made of credits and of settlements is quiet
  known_is : (P : What → Type 0) → ((c : Credited) → P (what.Known c)) → (n : ℕ) (e : Entry) → IfSome (known_at end.places n e) P
  known_is P of n e = credit (as_credit e.what)
    where
      placed : (c : Credited) (o : Option ℕ) → IfSome (option_map (λ r. what.Known (credited_to r c)) o) P
      placed c None = tt
      placed c (Some r) = of (credited_to r c)

      credit : (o : Option Credited) → IfSome (option_and_then (λ (c : Credited). option_map (λ r. what.Known (credited_to r c)) (next_place end.places c.peer)) o) P
      credit None = tt
      credit (Some c) = placed c (next_place end.places c.peer)

  pending_is : (P : What → Type 0) → ((r amount : ℕ) (key : List ℕ) → P (what.Pending r amount key)) → (n : ℕ) (e : Entry) → IfSome (pending_at end j n e) P
  pending_is P of n e = asked (is_unclosed j n) (as_ask e.what)
    where
      placed : (a : Ask) (key : List ℕ) (o : Option ℕ) → IfSome (option_map (λ r. what.Pending r a.amount key) o) P
      placed a key None = tt
      placed a key (Some r) = of r a.amount key

      asked : (b : Bool) (o : Option Ask)
          → IfSome (cond b (option_and_then (λ (a : Ask). option_map (λ r. what.Pending r a.amount (settlement_key end.key_of n e.what)) (next_place end.places a.peer)) o) None) P
      asked false o = tt
      asked true None = tt
      asked true (Some a) = placed a (settlement_key end.key_of n e.what) (next_place end.places a.peer)

  quiet_known : (c : Credited) → Quiet (what.Known c)
  quiet_known c = (λ _. refl, refl, refl)

  quiet_pending : (r amount : ℕ) (key : List ℕ) → Quiet (what.Pending r amount key)
  quiet_pending r amount key = (λ _. refl, refl, refl)

  -- one more that is quiet
  step_quiet : (ws : List What) (w : What) → Every Quiet ws → Quiet w → Step (balances_brought_forward end.places j ++ ws) w
  step_quiet ws w quiet last =
      step_by (balances_brought_forward end.places j ++ ws) w
      (inr (ap (λ l. balance (map h l) q) (append_assoc (balances_brought_forward end.places j) ws (w ∷ []))
      ∙ balance_quiet (ws ++ w ∷ []) (every-append Quiet ws (w ∷ []) quiet (last, tt))))

  credits : Each Step (balances_brought_forward end.places j ++ credits_brought_forward end.places j)
  credits =
      each_made Step (known_at end.places) (balances_brought_forward end.places j) openings j
      (each_always _ [] j (λ done e.
      known_is (Step (balances_brought_forward end.places j ++ filter_map_from (known_at end.places) 0 done))
      (λ c. step_quiet (filter_map_from (known_at end.places) 0 done) (what.Known c) (every-made Quiet (known_at end.places) 0 done (known_is Quiet quiet_known)) (quiet_known c)) (length done) e))

  settlements : Each Step ((balances_brought_forward end.places j ++ credits_brought_forward end.places j) ++ settlements_brought_forward end j)
  settlements =
      each_made Step (pending_at end j) (balances_brought_forward end.places j ++ credits_brought_forward end.places j) credits j
      (each_always _ [] j (λ done e.
      pending_is (Step ((balances_brought_forward end.places j ++ credits_brought_forward end.places j) ++ filter_map_from (pending_at end j) 0 done))
      (λ r amount key. behind done (what.Pending r amount key) (quiet_pending r amount key)) (length done) e))
    where
      behind : (done : Entries) (w : What) → Quiet w → Step ((balances_brought_forward end.places j ++ credits_brought_forward end.places j) ++ filter_map_from (pending_at end j) 0 done) w
      behind done w last =
          subst (λ l. Step l w) (sym (append_assoc (balances_brought_forward end.places j) (credits_brought_forward end.places j) (filter_map_from (pending_at end j) 0 done)))
          (step_quiet (credits_brought_forward end.places j ++ filter_map_from (pending_at end j) 0 done) w
          (every-append Quiet (credits_brought_forward end.places j) (filter_map_from (pending_at end j) 0 done) (every-made Quiet (known_at end.places) 0 j (known_is Quiet quiet_known))
          (every-made Quiet (pending_at end j) 0 done (pending_is Quiet quiet_pending))) last)

  -- after each entry of a head a balance is 0 or what was brought forward
  pub head_reached : Each (λ before (e : Entry). Reached (balance (before ++ e ∷ []) q)) (brought_forward end j)
  unfolding brought_forward
  head_reached =
      each_map (λ before (e : Entry). Reached (balance (before ++ e ∷ []) q)) h [] _
      (subst (Each Step) (append_assoc (balances_brought_forward end.places j) (credits_brought_forward end.places j) (settlements_brought_forward end j)) settlements)
