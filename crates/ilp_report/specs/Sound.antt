-- What every snapshot has.
use Rattle.std.specs.Prelude.{◌≡◌, ℕ, ℤ, pos, ◌≤ℤ◌, ◌+ℤ◌, ◌-ℤ◌, List, Some, slice_get, if◌then◌else◌, ◌==◌}
use Rattle.ilp_journal.specs.Places.{int_sum_from}
use Rattle.ilp_book.specs.declared.calls.Sums.{Sums}
use Rattle.ilp_report.specs.Columns.{IsShort, IsNarrow}
use Rattle.ilp_report.specs.Report.{PlainPeerAccount, PlainAssetBooks}

-- ---- peers and assets

-- no balance lies below its peer's least
pub record IsPeerAccount (peer : PlainPeerAccount) : Type 0 where
  pub short : IsShort peer.name
  pub narrow : IsNarrow peer.balance
  pub least : peer.least ≤ℤ peer.balance

pub record AreNarrow (sums : Sums) : Type 0 where
  pub settled : IsNarrow sums.settled
  pub held : IsNarrow sums.held
  pub fees : IsNarrow sums.fees
  pub bought : IsNarrow sums.bought
  pub sold : IsNarrow sums.sold

pub record AreAssetBooks (asset : PlainAssetBooks) : Type 0 where
  pub short : IsShort asset.name
  pub narrow : AreNarrow asset.sums

-- ---- all of them

-- the sum of the balances in the asset x
abbrev pub balances_in : List PlainPeerAccount → ℕ → ℤ
balances_in peers x = int_sum_from (λ _ (peer : PlainPeerAccount). if x == peer.asset then peer.balance else pos 0) 0 peers

-- the books of x, if it is told of them, sum to what was settled in it
abbrev pub Balances : List PlainPeerAccount → List PlainAssetBooks → ℕ → Type 0
Balances peers assets x = (asset : PlainAssetBooks) → slice_get assets x ≡ Some asset
    → balances_in peers x +ℤ asset.sums.held +ℤ asset.sums.fees +ℤ asset.sums.bought -ℤ asset.sums.sold ≡ asset.sums.settled

-- the trial balance of each asset
abbrev pub AreBalanced : List PlainPeerAccount → List PlainAssetBooks → Type 0
AreBalanced peers assets = (x : ℕ) → Balances peers assets x
