-- The tallies of a journal of no entries.
use Rattle.std.proofs.Common.{◌≡◌, ℕ, zero, suc, ◌<◌, List, [], length, replicate, get_or, All, refl, sym, subst}
use Rattle.std.proofs.lemmas.List.{length-replicate}
use Rattle.ilp_journal.specs.Journal.{open_holds}
use Rattle.ilp_journal.specs.Balance.{balance}
use Rattle.ilp_journal.specs.TrialBalance.{held, taken, fees, sold, settled, total_in, total_out}
use Rattle.ilp_tallies.specs.declared.rows.PeerRow.{PeerRow}
use Rattle.ilp_tallies.specs.declared.rows.AssetRow.{AssetRow}
use Rattle.ilp_tallies.specs.Rows.{zero_peer, zero_asset}
use Rattle.ilp_tallies.specs.Tallies.{PlainTallies, AreTallies, IsPeerRow, IsAssetRow}

-- the tallies of no entries
abbrev pub no_tallies : List ℕ → ℕ → ℕ → PlainTallies
no_tallies assets count base = record {
  base = base;
  assets = assets;
  peers = replicate (length assets) zero_peer;
  asks = replicate (length assets) [];
  sums = replicate count zero_asset;
  entries = 0;
  opened = 0;
  closed = 0;
  fulfilled = 0;
}

-- each of several equal rows is that row
each_equal : {R : Type 0} (row : R) (n k : ℕ) → get_or (replicate n row) k row ≡ row
each_equal row zero k = refl
each_equal row (suc n) zero = refl
each_equal row (suc n) (suc k) = each_equal row n k

-- nothing was booked of a peer
peer_at_first : (p : ℕ) → IsPeerRow [] p zero_peer
unfolding balance open_holds
peer_at_first p = record { balance = refl; open_holds = refl }

-- nothing was booked in an asset
asset_at_first : (assets : List ℕ) (base x : ℕ) → IsAssetRow assets base [] x zero_asset
unfolding held taken fees sold settled total_in total_out
asset_at_first assets base x = record { held = refl; taken = refl; fees = refl; sold = refl; settled = refl; total_in = refl; total_out = refl }

-- zeros are the tallies of no entries
pub tallies_at_first : (assets : List ℕ) (count base : ℕ) → All (λ asset. asset < count) assets → AreTallies assets base [] (no_tallies assets count base)
tallies_at_first assets count base within =
    let Within : ℕ → Type 0 = λ n. All (λ asset. asset < n) assets in
    record {
      listed = refl;
      since = refl;
      rows = length-replicate (length assets) zero_peer;
      within = subst Within (sym (length-replicate count zero_asset)) within;
      ask_rows = length-replicate (length assets) [];
      asks = λ p. each_equal [] (length assets) p;
      peers = λ p. subst (IsPeerRow [] p) (sym (each_equal zero_peer (length assets) p)) (peer_at_first p);
      sums = λ x. subst (IsAssetRow assets base [] x) (sym (each_equal zero_asset count x)) (asset_at_first assets base x);
      knows_holds = λ n. tt;
      knows_asks = λ n. tt;
      entries = refl;
      left_open = refl;
      fulfilled = refl;
    }

-- tallies whose rows are all zeros
pub tallies_made : (assets : List ℕ) (peers_count count base : ℕ) (peers : List PeerRow) (asks : List (List ℕ)) (sums : List AssetRow)
    → All (λ asset. asset < count) assets → peers_count ≡ length assets
    → peers ≡ replicate peers_count zero_peer → asks ≡ replicate peers_count [] → sums ≡ replicate count zero_asset
    → AreTallies assets base [] (record (no_tallies assets count base) { peers = peers; asks = asks; sums = sums })
tallies_made assets peers_count count base peers asks sums within counted peers_are asks_are sums_are =
    rw (peers_are, asks_are, sums_are, counted) (tallies_at_first assets count base within)
