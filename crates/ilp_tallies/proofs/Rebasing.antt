-- Where no entry is counted in the totals by either of two bases, they are the same.
use Rattle.std.proofs.Common.{◌≡◌, ℕ, ◌+◌, ◌<◌, ◌≤◌, Bool, true, false, cond, List, [], ◌∷◌, length, All, refl, sym, subst, arith}
use Rattle.std.specs.Prelude.{nat_le, ◌&&◌, ◌||◌}
use Rattle.std.proofs.lemmas.Bool.{leb-true}
use Rattle.ilp_journal.specs.declared.entry.Hold.{Hold}
use Rattle.ilp_order.specs.Places.{sum_from}
use Rattle.ilp_journal.specs.Journal.{Entries, of_hold, sum_of_holds, is_unanswered, is_fulfilled}
use Rattle.ilp_journal.specs.TrialBalance.{is_counted, total_in, total_out, amount_in, amount_out}
use Rattle.ilp_tallies.specs.declared.rows.AssetRow.{AssetRow}
use Rattle.ilp_tallies.specs.Rows.{asset_row, without_totals}
use Rattle.ilp_tallies.specs.Tallies.{PlainTallies, IsAssetRow, MovesBase, EndsTotals}

-- the sum over places below a bound of what is 0 there
below-zero : {X : Type 0} (f : ℕ → X → ℕ) (bound n : ℕ) (xs : List X) → ((k : ℕ) (x : X) → k < bound → f k x ≡ 0) → n + length xs ≤ bound → sum_from f n xs ≡ 0
below-zero f bound n [] zero fits = refl
below-zero f bound n (x ∷ xs) zero fits = omega (arith, zero n x (omega (arith, fits)), below-zero f bound (n + 1) xs zero (omega (arith, fits)))

-- no hold is counted where the base lies behind all entries
uncounted : (base : ℕ) (f : Hold → ℕ) (j : Entries) → length j ≤ base → sum_of_holds (is_counted base j) f j ≡ 0
uncounted base f j behind = below-zero _ base 0 j (λ k e early. none (nat_le base k) (is_unanswered j k || is_fulfilled j k) (of_hold f e.what) k early refl) (omega (arith, behind))
  where
    none : (a b : Bool) (x k : ℕ) → k < base → nat_le base k ≡ a → cond (a && b) x 0 ≡ 0
    none false b x k early is = refl
    none true b x k early is = absurd (omega (arith, early, leb-true base k is))

pub total_in-none : (assets : List ℕ) (base : ℕ) (j : Entries) (x : ℕ) → length j ≤ base → total_in assets base j x ≡ 0
unfolding total_in
total_in-none assets base j x behind = uncounted base (amount_in assets x) j behind

pub total_out-none : (assets : List ℕ) (base : ℕ) (j : Entries) (x : ℕ) → length j ≤ base → total_out assets base j x ≡ 0
unfolding total_out
total_out-none assets base j x behind = uncounted base (amount_out assets x) j behind

-- so tallies are those by a later base too
pub moves_base : (t : PlainTallies) (base : ℕ) → MovesBase t base (record t { base = base })
moves_base t base assets j before behind tallies = record {
  listed = tallies.listed;
  since = refl;
  rows = tallies.rows;
  ask_rows = tallies.ask_rows;
  within = tallies.within;
  peers = tallies.peers;
  asks = tallies.asks;
  sums = λ x. let row = tallies.sums x in record {
    held = row.held;
    taken = row.taken;
    fees = row.fees;
    sold = row.sold;
    settled = row.settled;
    total_in = omega (arith, row.total_in, total_in-none assets t.base j x before, total_in-none assets base j x behind);
    total_out = omega (arith, row.total_out, total_out-none assets t.base j x before, total_out-none assets base j x behind);
  };
  knows_holds = tallies.knows_holds;
  knows_asks = tallies.knows_asks;
  entries = tallies.entries;
  left_open = tallies.left_open;
  fulfilled = tallies.fulfilled;
}

-- rows without totals are those by a base behind all entries
pub ends_totals : (t : PlainTallies) (base : ℕ) (sums : List AssetRow) → length sums ≡ length t.sums
    → ((x : ℕ) → asset_row sums x ≡ without_totals (asset_row t.sums x)) → EndsTotals t base (record t { base = base; sums = sums })
ends_totals t base sums count cleared assets j behind tallies = record {
  listed = tallies.listed;
  since = refl;
  rows = tallies.rows;
  ask_rows = tallies.ask_rows;
  within = subst (λ (n : ℕ). All (λ asset. asset < n) assets) (sym count) tallies.within;
  peers = tallies.peers;
  asks = tallies.asks;
  sums = λ x. let row = tallies.sums x in subst (IsAssetRow assets base j x) (sym (cleared x)) (record {
    held = row.held;
    taken = row.taken;
    fees = row.fees;
    sold = row.sold;
    settled = row.settled;
    total_in = omega (arith, total_in-none assets base j x behind);
    total_out = omega (arith, total_out-none assets base j x behind);
  });
  knows_holds = tallies.knows_holds;
  knows_asks = tallies.knows_asks;
  entries = tallies.entries;
  left_open = tallies.left_open;
  fulfilled = tallies.fulfilled;
}
