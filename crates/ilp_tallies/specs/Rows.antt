-- Rows of sums, by the places of peers and of assets. Past the last row all are zeros.
use Rattle.std.specs.Prelude.{ℕ, ◌+◌, ◌*◌, ◌^◌, ◌≤◌, List, slice_index_or, slice_set}
use Rattle.ilp_tallies.specs.declared.rows.PeerRow.{PeerRow}
use Rattle.ilp_tallies.specs.declared.rows.AssetRow.{AssetRow}

-- ---- peers

-- the row of a peer that no entry names
abbrev pub zero_peer : PeerRow
zero_peer = record { raised = 0; lowered = 0; sent = 0; answered = 0 }

-- two rows, added number by number
abbrev pub peer_plus : PeerRow → PeerRow → PeerRow
peer_plus r s = record {
  raised = r.raised + s.raised;
  lowered = r.lowered + s.lowered;
  sent = r.sent + s.sent;
  answered = r.answered + s.answered;
}

-- the row of a peer
abbrev pub peer_row : List PeerRow → ℕ → PeerRow
peer_row rows p = slice_index_or rows p zero_peer

-- the rows, with more in the row of a peer
abbrev pub add_peer : List PeerRow → ℕ → PeerRow → List PeerRow
add_peer rows p more = slice_set rows p (peer_plus (peer_row rows p) more)

-- no number of the row is greater than what n entries come to, each of which adds an amount of 64 bits
pub record FitsPeer (n : ℕ) (r : PeerRow) : Type 0 where
  pub raised : r.raised ≤ n * 2 ^ 64
  pub lowered : r.lowered ≤ n * 2 ^ 64
  pub sent : r.sent ≤ n
  pub answered : r.answered ≤ n

-- ---- assets

-- the row of an asset that no entry's peers have
abbrev pub zero_asset : AssetRow
zero_asset = record {
  begun = 0;
  ended = 0;
  taken = 0;
  fees = 0;
  sold = 0;
  paid_in = 0;
  paid_out = 0;
  in_begun = 0;
  in_released = 0;
  out_begun = 0;
  out_released = 0;
}

-- two rows, added number by number
abbrev pub asset_plus : AssetRow → AssetRow → AssetRow
asset_plus r s = record {
  begun = r.begun + s.begun;
  ended = r.ended + s.ended;
  taken = r.taken + s.taken;
  fees = r.fees + s.fees;
  sold = r.sold + s.sold;
  paid_in = r.paid_in + s.paid_in;
  paid_out = r.paid_out + s.paid_out;
  in_begun = r.in_begun + s.in_begun;
  in_released = r.in_released + s.in_released;
  out_begun = r.out_begun + s.out_begun;
  out_released = r.out_released + s.out_released;
}

-- the row of an asset
abbrev pub asset_row : List AssetRow → ℕ → AssetRow
asset_row rows x = slice_index_or rows x zero_asset

-- the rows, with more in the row of an asset
abbrev pub add_asset : List AssetRow → ℕ → AssetRow → List AssetRow
add_asset rows x more = slice_set rows x (asset_plus (asset_row rows x) more)

-- a row whose totals are nothing
abbrev pub without_totals : AssetRow → AssetRow
without_totals r = record r { in_begun = 0; in_released = 0; out_begun = 0; out_released = 0 }

-- no number of the row is greater than what n entries come to, each of which adds an amount of 64 bits
pub record FitsAsset (n : ℕ) (r : AssetRow) : Type 0 where
  pub begun : r.begun ≤ n * 2 ^ 64
  pub ended : r.ended ≤ n * 2 ^ 64
  pub taken : r.taken ≤ n * 2 ^ 64
  pub fees : r.fees ≤ n * 2 ^ 64
  pub sold : r.sold ≤ n * 2 ^ 64
  pub paid_in : r.paid_in ≤ n * 2 ^ 64
  pub paid_out : r.paid_out ≤ n * 2 ^ 64
  pub in_begun : r.in_begun ≤ n * 2 ^ 64
  pub in_released : r.in_released ≤ n * 2 ^ 64
  pub out_begun : r.out_begun ≤ n * 2 ^ 64
  pub out_released : r.out_released ≤ n * 2 ^ 64

-- no journal has more entries
abbrev pub most_entries : ℕ
most_entries = 2 ^ 32
