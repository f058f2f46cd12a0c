-- The books of a head: all that was settled by it are the balances that are brought forward.
use Rattle.std.proofs.Common.{◌≡◌, ◌≢◌, ◌⊎◌, inl, inr, ℕ, zero, suc, ℤ, pos, negsuc, ◌+ℤ◌, ◌-ℤ◌, unsigned_abs, Bool, true, false, cond, List, Option, Some, None, refl, sym, ap, ap₂, ◌∙◌, subst, arith, zero-add, slice_get, option_map, unwrap_or, ◌==◌}
use Rattle.std.proofs.lemmas.Bool.{eqb-true}
use Rattle.std.proofs.lemmas.Int.{ints}
use Rattle.ilp_journal.specs.declared.entry.Entry.{Entry}
use Rattle.ilp_journal.specs.declared.entry.Hold.{Hold}
use Rattle.ilp_order.specs.Places.{sum_from}
use Rattle.ilp_journal.specs.Journal.{Entries, is_number, of_hold, is_unanswered, is_fulfilled, sum_of_holds}
use Rattle.ilp_journal.specs.Balance.{above, below, balance}
use Rattle.ilp_journal.specs.TrialBalance.{amount_in, amount_out, fee_in, held, fees, taken, sold, settled, balances, IsBalanced}
use Rattle.ilp_journal.specs.BroughtForward.{PeriodEnd, next_place, earlier_place, earlier_balance, brought_forward, KeepsPeers}
use Rattle.ilp_order.proofs.Sums.{sum_from-same, sum_from-zero, int_sum_from-difference}
use Rattle.ilp_journal.proofs.Naming.{sum_from_named}
use Rattle.ilp_journal.proofs.EqualSums.{sum_from-same_at, sum_from-exchange, int_sum_from-same}
use Rattle.ilp_journal.proofs.TrialBalance.{trial_balance}
use Rattle.ilp_journal.proofs.Made.{sum_from-every_zero}
use Rattle.ilp_journal.proofs.Heads.{next_is, next_is_none, every_brought_forward, head_answers_once, net, balance_brought_forward}

-- a head has no holds
no_holds : (test : ℕ → Bool) (f : Hold → ℕ) (end : PeriodEnd) (j : Entries) → sum_of_holds test f (brought_forward end j) ≡ 0
no_holds test f end j =
    sum_from-every_zero (λ n (e : Entry). cond (test n) (of_hold f e.what) 0) 0 (brought_forward end j)
    (every_brought_forward (λ w. (k : ℕ) → cond (test k) (of_hold f w) 0 ≡ 0) (λ q b k. none (test k)) (λ c k. none (test k)) (λ q amount key k. none (test k)) end j)
  where
    none : (b : Bool) → ◌≡◌ {A = ℕ} (cond b 0 0) 0
    none true = refl
    none false = refl

held_none : (assets : List ℕ) (end : PeriodEnd) (j : Entries) (x : ℕ) → held assets (brought_forward end j) x ≡ 0
unfolding held
held_none assets end j x = no_holds (is_unanswered (brought_forward end j)) (amount_in assets x) end j

fees_none : (assets : List ℕ) (end : PeriodEnd) (j : Entries) (x : ℕ) → fees assets (brought_forward end j) x ≡ 0
unfolding fees
fees_none assets end j x = no_holds (is_fulfilled (brought_forward end j)) (fee_in assets x) end j

taken_none : (assets : List ℕ) (end : PeriodEnd) (j : Entries) (x : ℕ) → taken assets (brought_forward end j) x ≡ 0
unfolding taken
taken_none assets end j x = no_holds (is_fulfilled (brought_forward end j)) (amount_in assets x) end j

sold_none : (assets : List ℕ) (end : PeriodEnd) (j : Entries) (x : ℕ) → sold assets (brought_forward end j) x ≡ 0
unfolding sold
sold_none assets end j x = no_holds (is_fulfilled (brought_forward end j)) (amount_out assets x) end j

-- what a head settles in an asset is the sum of its balances
pub head_settles : (assets : List ℕ) (end : PeriodEnd) (j : Entries) (x : ℕ) → settled assets (brought_forward end j) x ≡ balances assets (brought_forward end j) x
head_settles assets end j x =
    let whole : IsBalanced assets (brought_forward end j) x = trial_balance assets x (brought_forward end j) (head_answers_once end j) in
    books _ _ _ _ _ _ whole (held_none assets end j x) (fees_none assets end j x) (taken_none assets end j x) (sold_none assets end j x)
  where
    books : (b s : ℤ) (unanswered kept amounts paid : ℕ)
        → b +ℤ pos unanswered +ℤ pos kept +ℤ (pos amounts -ℤ pos kept) -ℤ pos paid ≡ s
        → unanswered ≡ 0 → kept ≡ 0 → amounts ≡ 0 → paid ≡ 0 → s ≡ b
    books b s unanswered kept amounts paid e h k m n = omega (arith, ints)

-- ---- the balances of an asset, by the peers of both periods

module _ (assets next : List ℕ) (end : PeriodEnd) (j : Entries) (x : ℕ) (keeps : KeepsPeers assets next end.places j) where
  -- a peer has a place in the next period just where that was the peer's
  turned : (p q : ℕ) → is_number q (next_place end.places p) ≡ is_number p (earlier_place end.places q)
  turned p q = by_last (earlier_place end.places q) refl
    where
      by_last : (o : Option ℕ) → earlier_place end.places q ≡ o → is_number q (next_place end.places p) ≡ is_number p o
      by_last None e = next_is_none end.places q p e
      by_last (Some r) e = next_is end.places r q p (keeps.once r q e)

  module _ (size : ℤ → ℕ) (none : size (pos 0) ≡ 0) where
    -- the size of a balance, if it is in the asset
    abbrev weight : ℤ → ℕ → ℕ
    weight b asset = cond (x == asset) (size b) 0

    weightless : (b : ℤ) (asset : ℕ) → b ≡ pos 0 → weight b asset ≡ 0
    weightless b asset e = rw (e, none) (zero (x == asset))
      where
        zero : (c : Bool) → ◌≡◌ {A = ℕ} (cond c 0 0) 0
        zero true = refl
        zero false = refl

    zero_or_not : (b : ℤ) → (b ≡ pos 0) ⊎ (b ≢ pos 0)
    zero_or_not (pos zero) = inl refl
    zero_or_not (pos (suc n)) = inr (λ e. cc (ap unsigned_abs e))
    zero_or_not (negsuc n) = inr (λ e. cc (ap unsigned_abs e))

    -- the weight of a balance is the same by either list of assets
    by_either : (b : ℤ) (asset : ℕ) (o : Option ℕ) → (b ≢ pos 0 → Some asset ≡ o) → unwrap_or (option_map (weight b) o) 0 ≡ weight b asset
    by_either b asset o same = elim (zero_or_not b) [ inl e ↦ nothing e o | inr some ↦ ap (λ o. unwrap_or (option_map (weight b) o) 0) (sym (same some)) ]
      where
        nothing : b ≡ pos 0 → (o : Option ℕ) → unwrap_or (option_map (weight b) o) 0 ≡ weight b asset
        nothing e None = sym (weightless b asset e)
        nothing e (Some other) = weightless b other e ∙ sym (weightless b asset e)

    -- and is there at all
    is_there : (b : ℤ) (asset : ℕ) (o : Option ℕ) → (b ≢ pos 0 → o ≡ Some asset) → unwrap_or (option_map (λ (other : ℕ). weight b asset) o) 0 ≡ weight b asset
    is_there b asset (Some other) same = refl
    is_there b asset None same = elim (zero_or_not b) [ inl e ↦ sym (weightless b asset e) | inr some ↦ cc (same some) ]

    -- a sum of what stands at the place that a number names
    named_sum : (g : ℕ → ℕ → ℕ) (o : Option ℕ) (xs : List ℕ)
        → sum_from (λ k y. cond (is_number k o) (g k y) 0) 0 xs ≡ unwrap_or (option_map (λ i. unwrap_or (option_map (g i) (slice_get xs i)) 0) o) 0
    named_sum g None xs = sum_from-zero _ 0 xs (λ k y low. refl)
    named_sum g (Some i) xs =
        sum_from-same _ (λ k y. cond (k == i) (g i y) 0) 0 xs (λ k y. at k y (k == i) refl) ∙ sum_from_named (g i) (Some i) xs
      where
        at : (k y : ℕ) (b : Bool) → (k == i) ≡ b → cond b (g k y) 0 ≡ cond b (g i y) 0
        at k y true e = ap (λ m. g m y) (eqb-true k i e)
        at k y false e = refl

    -- what the peer p weighs, where it has the place q in the next period
    abbrev cell : ℕ → ℕ → ℕ → ℕ
    cell p asset q = cond (is_number q (next_place end.places p)) (weight (balance j p) asset) 0

    -- all that the peer p weighs is at its place
    by_peer : (p asset : ℕ) → slice_get assets p ≡ Some asset → weight (balance j p) asset ≡ sum_from (λ q other. cell p asset q) 0 next
    by_peer p asset at = sym (sum_from_named (λ (other : ℕ). weight (balance j p) asset) (next_place end.places p) next ∙ placed (next_place end.places p) refl)
      where
        placed : (o : Option ℕ) → next_place end.places p ≡ o
            → unwrap_or (option_map (λ i. unwrap_or (option_map (λ (other : ℕ). weight (balance j p) asset) (slice_get next i)) 0) o) 0 ≡ weight (balance j p) asset
        placed None e = sym (weightless (balance j p) asset (keeps.removed p e))
        placed (Some q) e = is_there (balance j p) asset (slice_get next q) (λ some. keeps.kept p q e some ∙ at)

    -- all that comes to the place q is that peer's
    by_place : (q asset : ℕ) → slice_get next q ≡ Some asset
        → weight (earlier_balance j (earlier_place end.places q)) asset ≡ sum_from (λ p other. cell p other q) 0 assets
    by_place q asset at =
        sym (sum_from-same _ (λ p other. cond (is_number p (earlier_place end.places q)) (weight (balance j p) other) 0) 0 assets
        (λ p other. ap (λ b. cond b (weight (balance j p) other) 0) (turned p q))
        ∙ named_sum (λ p other. weight (balance j p) other) (earlier_place end.places q) assets ∙ was (earlier_place end.places q) refl)
      where
        was : (o : Option ℕ) → earlier_place end.places q ≡ o
            → unwrap_or (option_map (λ i. unwrap_or (option_map (weight (balance j i)) (slice_get assets i)) 0) o) 0 ≡ weight (earlier_balance j o) asset
        was None e = sym (weightless (pos 0) asset refl)
        was (Some p) e = by_either (balance j p) asset (slice_get assets p) (λ some. sym at ∙ keeps.kept p q (keeps.once p q e) some)

    -- so both come to the same
    same_weight : sum_from (λ q asset. weight (earlier_balance j (earlier_place end.places q)) asset) 0 next ≡ sum_from (λ p asset. weight (balance j p) asset) 0 assets
    same_weight =
        sum_from-same_at _ (λ q asset. sum_from (λ p other. cell p other q) 0 assets) 0 next
        (λ q asset at. let P : ℕ → Type 0 = λ n. weight (earlier_balance j (earlier_place end.places n)) asset ≡ sum_from (λ p other. cell p other n) 0 assets in
        subst P (sym (zero-add q)) (by_place q asset at))
        ∙ sym (sum_from-exchange (λ p other q asset. cell p other q) 0 0 assets next)
        ∙ sym (sum_from-same_at _ (λ p asset. sum_from (λ q other. cell p asset q) 0 next) 0 assets
        (λ p asset at. let P : ℕ → Type 0 = λ n. weight (balance j n) asset ≡ sum_from (λ q other. cell n asset q) 0 next in
        subst P (sym (zero-add p)) (by_peer p asset at)))

  -- the balances of an asset sum to the same in the head as in the journal that it was brought forward from
  pub balances_brought_forward_sum : balances next (brought_forward end j) x ≡ balances assets j x
  unfolding balances
  balances_brought_forward_sum =
      int_sum_from-same _ (λ q asset. cond (x == asset) (pos (above (earlier_balance j (earlier_place end.places q))) -ℤ pos (below (earlier_balance j (earlier_place end.places q)))) (pos 0)) 0 next
      (λ q asset. ap (λ b. cond (x == asset) b (pos 0)) (balance_brought_forward end j q ∙ sym (net (earlier_balance j (earlier_place end.places q)))))
      ∙ int_sum_from-difference (λ asset. x == asset) (λ q. above (earlier_balance j (earlier_place end.places q))) (λ q. below (earlier_balance j (earlier_place end.places q))) 0 next
      ∙ ap₂ (λ m n. pos m -ℤ pos n) (same_weight above refl) (same_weight below refl)
      ∙ sym (int_sum_from-difference (λ asset. x == asset) (λ p. above (balance j p)) (λ p. below (balance j p)) 0 assets)
      ∙ sym (int_sum_from-same _ (λ p asset. cond (x == asset) (pos (above (balance j p)) -ℤ pos (below (balance j p))) (pos 0)) 0 assets
      (λ p asset. ap (λ b. cond (x == asset) b (pos 0)) (sym (net (balance j p)))))
