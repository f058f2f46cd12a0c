-- The report of a book. Peers and assets stand in the configuration's order, and every sum goes over the whole journal.
use Rattle.std.specs.Prelude.{ℕ, ◌-◌, ℤ, pos, List, [], ◌∷◌, ◌++◌, length, map, replicate, codes, ◌==◌, if◌then◌else◌}
use Rattle.std.specs.List.{range_with_len, flat_map}
use Rattle.std.specs.Fmt.{decimal, signed_decimal}
use Rattle.ilp_assets.specs.Assets.{PlainAsset, asset_at}
use Rattle.ilp_accounts.specs.Configuration.{peer_at}
use Rattle.ilp_journal.specs.Journal.{open_holds, fulfilled_since}
use Rattle.ilp_journal.specs.Balance.{balance}
use Rattle.ilp_journal.specs.TrialBalance.{settled, held, fees, bought, sold}
use Rattle.ilp_book.specs.declared.calls.Sums.{Sums}
use Rattle.ilp_book.specs.Book.{PlainBook}
use Rattle.ilp_book.specs.Configured.{peer_assets}

-- ---- what is told of a book

-- a peer: the place of its asset, the least that its balance may be, its balance, and how many of the open holds it sent
pub record PlainPeerAccount : Type 0 where
  pub name : List ℕ
  pub asset : ℕ
  pub least : ℤ
  pub balance : ℤ
  pub open_holds : ℕ

-- an asset, and what its books come to
pub record PlainAssetBooks : Type 0 where
  pub name : List ℕ
  pub sums : Sums

-- how many entries there are, how many of them fulfill a hold, and the number of the period
pub record PlainSnapshot : Type 0 where
  pub peers : List PlainPeerAccount
  pub assets : List PlainAssetBooks
  pub entries : ℕ
  pub fulfilled : ℕ
  pub period : ℕ

-- what is told of the peer at a place
unfoldable pub peer_account : PlainBook → ℕ → PlainPeerAccount
peer_account book p =
    let peer = peer_at book.config p in
    record { name = peer.name; asset = peer.asset; least = peer.least; balance = balance book.entries p; open_holds = open_holds book.entries p }

-- CODE/SCALE
abbrev pub asset_name : PlainAsset → List ℕ
asset_name a = a.code ++ (codes "/" ++ decimal a.scale)

-- what the books of the asset at a place come to
abbrev pub sums_of : PlainBook → ℕ → Sums
sums_of book x =
    let assets = peer_assets book.config in
    record {
      settled = settled assets book.entries x;
      held = pos (held assets book.entries x);
      fees = pos (fees assets book.entries x);
      bought = bought assets book.entries x;
      sold = pos (sold assets book.entries x);
    }

-- what is told of the asset at a place
unfoldable pub asset_books : PlainBook → ℕ → PlainAssetBooks
asset_books book x = record { name = asset_name (asset_at book.config.table.assets x); sums = sums_of book x }

-- what is told of a book
unfoldable pub snapshot_of : PlainBook → PlainSnapshot
snapshot_of book = record {
  peers = map (peer_account book) (range_with_len 0 (length book.config.peers));
  assets = map (asset_books book) (range_with_len 0 (length book.config.table.assets));
  entries = length book.entries;
  fulfilled = fulfilled_since 0 book.entries;
  period = book.period;
}

-- ---- lines

-- a text at the left of so many places, and one at their right
abbrev pub left : ℕ → List ℕ → List ℕ
left width text = text ++ replicate (width - length text) 32

abbrev pub right : ℕ → List ℕ → List ℕ
right width text = replicate (width - length text) 32 ++ text

-- a label, a name and a number in columns, and LF
unfoldable pub line : List ℕ → List ℕ → ℤ → List ℕ
line label name number = left 10 label ++ (left 20 name ++ (right 30 (signed_decimal number) ++ 10 ∷ []))

abbrev pub balance_line : PlainPeerAccount → List ℕ
balance_line peer = line (codes "balance") peer.name peer.balance

abbrev pub open_line : PlainPeerAccount → List ℕ
open_line peer = line (codes "open") peer.name (pos peer.open_holds)

abbrev pub asset_lines : PlainAssetBooks → List ℕ
asset_lines asset =
    line (codes "held") asset.name asset.sums.held
    ++ (line (codes "fees") asset.name asset.sums.fees
    ++ (line (codes "bought") asset.name asset.sums.bought
    ++ (line (codes "sold") asset.name asset.sums.sold
    ++ line (codes "settled") asset.name asset.sums.settled)))

-- the number of a period above 0
abbrev pub period_line : ℕ → List ℕ
period_line period = if period == 0 then [] else line (codes "period") [] (pos period)

-- the lines of a snapshot
abbrev pub text_of : PlainSnapshot → List ℕ
text_of s =
    flat_map balance_line s.peers
    ++ (flat_map open_line s.peers
    ++ (flat_map asset_lines s.assets
    ++ (line (codes "entries") [] (pos s.entries)
    ++ (line (codes "fulfilled") [] (pos s.fulfilled)
    ++ period_line s.period))))

-- the report of a book
abbrev pub report_text : PlainBook → List ℕ
report_text book = text_of (snapshot_of book)
