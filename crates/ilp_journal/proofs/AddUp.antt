-- Periods one after another add up.
use Rattle.std.proofs.Common.{◌≡◌, ℕ, ◌+◌, ℤ, pos, ◌+ℤ◌, ◌-ℤ◌, List, [], ◌∷◌, ◌++◌, Option, Some, None, refl, sym, ap, ◌∙◌, subst, arith, option_and_then, option_map, unwrap_or}
use Rattle.std.proofs.lemmas.Int.{ints}
use Rattle.std.proofs.lemmas.List.Sums.{sum_by-append}
use Rattle.ilp_journal.specs.declared.entry.Entry.{Entry}
use Rattle.ilp_journal.specs.Journal.{Entries}
use Rattle.ilp_journal.specs.Balance.{rise, fall, balance}
use Rattle.ilp_journal.specs.BroughtForward.{PeriodEnd, next_place, brought_forward}
use Rattle.ilp_journal.specs.Periods.{raised_by, lowered_by, Period, journal_of, last_journal, place_in_last, raised_later, lowered_later, raised_in_all, lowered_in_all}
use Rattle.ilp_journal.proofs.Made.{sum_by-every_same}
use Rattle.ilp_journal.proofs.Heads.{every_brought_forward, balance_kept}

-- a balance is what all entries raise it by, less what they lower it by
balance_is : (j : Entries) (p : ℕ) → balance j p ≡ pos (raised_by j j p) -ℤ pos (lowered_by j p)
unfolding balance
balance_is j p = refl

-- what is booked behind a head moves the balances that it brought forward
pub balance_booked : (end : PeriodEnd) (j booked : Entries) (q : ℕ)
    → balance (brought_forward end j ++ booked) q
    ≡ balance (brought_forward end j) q +ℤ pos (raised_by (brought_forward end j ++ booked) booked q) -ℤ pos (lowered_by booked q)
balance_booked end j booked q =
    balance_is (brought_forward end j ++ booked) q
    ∙ moved _ _ _ _ _ _ up (sum_by-append (λ (e : Entry). fall q e.what) (brought_forward end j) booked)
    ∙ ap (λ b. b +ℤ pos (raised_by (brought_forward end j ++ booked) booked q) -ℤ pos (lowered_by booked q)) (sym (balance_is (brought_forward end j) q))
  where
    up : raised_by (brought_forward end j ++ booked) (brought_forward end j ++ booked) q ≡ raised_by (brought_forward end j) (brought_forward end j) q + raised_by (brought_forward end j ++ booked) booked q
    up =
        sum_by-append (λ (e : Entry). rise (brought_forward end j ++ booked) q e.what) (brought_forward end j) booked
        ∙ ap (λ n. n + raised_by (brought_forward end j ++ booked) booked q)
        (sum_by-every_same (λ (e : Entry). rise (brought_forward end j ++ booked) q e.what) (λ (e : Entry). rise (brought_forward end j) q e.what) (brought_forward end j)
        (every_brought_forward (λ w. rise (brought_forward end j ++ booked) q w ≡ rise (brought_forward end j) q w) (λ p b. refl) (λ c. refl) (λ p amount key. refl) end j))

    moved : (up' down' up down r f : ℕ) → up' ≡ up + r → down' ≡ down + f → pos up' -ℤ pos down' ≡ (pos up -ℤ pos down) +ℤ pos r -ℤ pos f
    moved up' down' up down r f h k = omega (arith, ints)

-- later periods move a balance by what is booked behind their heads
later_periods : (more : List Period) (j : Entries) (p q : ℕ) → place_in_last p more ≡ Some q
    → balance (last_journal j more) q ≡ balance j p +ℤ pos (raised_later j p more) -ℤ pos (lowered_later j p more)
later_periods [] j p q h = let same : p ≡ q = cc in subst (λ k. balance j k ≡ balance j p +ℤ pos 0 -ℤ pos 0) same (nothing (balance j p))
  where
    nothing : (b : ℤ) → b ≡ b +ℤ pos 0 -ℤ pos 0
    nothing b = omega (arith, ints)
later_periods (period ∷ more) j p q h = by_place (λ r. later_periods more (journal_of j period) r q) (next_place period.turn.places p) refl h
  where
    both : (last head b : ℤ) (r f r' f' : ℕ) → last ≡ head +ℤ pos r' -ℤ pos f' → head ≡ b +ℤ pos r -ℤ pos f
        → last ≡ b +ℤ pos (r + r') -ℤ pos (f + f')
    both last head b r f r' f' e k = omega (arith, ints)

    by_place : ((r : ℕ) → place_in_last r more ≡ Some q
        → balance (last_journal (journal_of j period) more) q
        ≡ balance (journal_of j period) r +ℤ pos (raised_later (journal_of j period) r more) -ℤ pos (lowered_later (journal_of j period) r more))
        → (o : Option ℕ) → next_place period.turn.places p ≡ o → option_and_then (λ r. place_in_last r more) o ≡ Some q
        → balance (last_journal (journal_of j period) more) q
        ≡ balance j p
        +ℤ pos (unwrap_or (option_map (λ r. raised_by (journal_of j period) period.booked r + raised_later (journal_of j period) r more) o) 0)
        -ℤ pos (unwrap_or (option_map (λ r. lowered_by period.booked r + lowered_later (journal_of j period) r more) o) 0)
    by_place later None at h = cc
    by_place later (Some r) at h =
        both _ _ _ _ _ _ _ (later r h)
        (balance_booked period.turn j period.booked r
        ∙ ap (λ b. b +ℤ pos (raised_by (journal_of j period) period.booked r) -ℤ pos (lowered_by period.booked r)) (balance_kept period.turn j p r at))

-- each peer's balance at the end is what all periods raised it by, less what they lowered it by
pub periods_add_up : (j : Entries) (more : List Period) (p q : ℕ) → place_in_last p more ≡ Some q
    → balance (last_journal j more) q ≡ pos (raised_in_all j p more) -ℤ pos (lowered_in_all j p more)
periods_add_up j more p q h = whole _ _ _ _ _ _ (later_periods more j p q h) (balance_is j p)
  where
    whole : (last first : ℤ) (r f r' f' : ℕ) → last ≡ first +ℤ pos r' -ℤ pos f' → first ≡ pos r -ℤ pos f → last ≡ pos (r + r') -ℤ pos (f + f')
    whole last first r f r' f' e k = omega (arith, ints)
