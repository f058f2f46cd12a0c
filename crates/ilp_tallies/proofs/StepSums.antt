-- What a step adds to each row.
use Rattle.std.proofs.Common.{◌≡◌, ℕ, ◌<◌, cond, List, length, get_or, All, sym, ap, ◌∙◌, arith, length-set}
use Rattle.std.specs.Prelude.{◌==◌}
use Rattle.std.proofs.lemmas.Bool.{eqb-true, eqb-false}
use Rattle.std.proofs.lemmas.List.Elements.{All-get_or}
use Rattle.std.proofs.lemmas.Option.{slice_get-get_or}
use Rattle.ilp_journal.specs.Journal.{is_number}
use Rattle.ilp_journal.specs.TrialBalance.{has_asset}
use Rattle.ilp_tallies.specs.declared.rows.PeerRow.{PeerRow}
use Rattle.ilp_tallies.specs.declared.rows.AssetRow.{AssetRow}
use Rattle.ilp_tallies.specs.declared.step.Step.{Step}
use Rattle.ilp_tallies.specs.Rows.{zero_peer, zero_asset, peer_plus, asset_plus, peer_row, asset_row, add_peer, add_asset}
use Rattle.ilp_tallies.specs.Tallies.{PlainTallies, with_step}
use Rattle.ilp_tallies.proofs.RowLemmas.{added_at, peer_plus_zero, peer_plus_assoc, asset_plus_zero, asset_plus_assoc}

-- what a step adds to the row of a peer
abbrev pub peer_part : Step → ℕ → PeerRow
peer_part s p = peer_plus (cond (s.from == p) s.from_row zero_peer) (cond (s.to == p) s.to_row zero_peer)

-- what a step adds to the row of an asset
abbrev pub asset_part : List ℕ → Step → ℕ → AssetRow
asset_part assets s x = asset_plus (cond (has_asset assets x s.from) s.from_sums zero_asset) (cond (has_asset assets x s.to) s.to_sums zero_asset)

-- ---- peers

-- the row of p, after more was added to the row of q
add_peer_at : (rows : List PeerRow) (q p : ℕ) (more : PeerRow) → q < length rows
    → peer_row (add_peer rows q more) p ≡ peer_plus (peer_row rows p) (cond (q == p) more zero_peer)
add_peer_at rows q p more within =
    added_at zero_peer peer_plus peer_plus_zero rows q p more (q == p) within (λ same. sym (eqb-true q p same)) (λ other same. eqb-false q p other (sym same))

-- the row of p after a step
pub with_step_peer : (t : PlainTallies) (s : Step) (p : ℕ) → s.from < length t.peers → s.to < length t.peers
    → peer_row (with_step t s).peers p ≡ peer_plus (peer_row t.peers p) (peer_part s p)
with_step_peer t s p from to =
    let first : List PeerRow = add_peer t.peers s.from s.from_row in
    let still : s.to < length first = omega (arith, to, length-set t.peers s.from (peer_plus (peer_row t.peers s.from) s.from_row)) in
    add_peer_at first s.to p s.to_row still
    ∙ ap (λ r. peer_plus r (cond (s.to == p) s.to_row zero_peer)) (add_peer_at t.peers s.from p s.from_row from)
    ∙ peer_plus_assoc (peer_row t.peers p) (cond (s.from == p) s.from_row zero_peer) (cond (s.to == p) s.to_row zero_peer)

-- ---- assets

-- whether a peer has an asset, by the peer's place
has_asset_is : (assets : List ℕ) (x p : ℕ) → p < length assets → has_asset assets x p ≡ (x == get_or assets p 0)
has_asset_is assets x p within = ap (is_number x) (slice_get-get_or assets p 0 within)

-- the row of x, after more was added to the row of the asset of p
add_asset_at : (assets : List ℕ) (rows : List AssetRow) (p x : ℕ) (more : AssetRow) → p < length assets → get_or assets p 0 < length rows
    → asset_row (add_asset rows (get_or assets p 0) more) x ≡ asset_plus (asset_row rows x) (cond (has_asset assets x p) more zero_asset)
add_asset_at assets rows p x more known within =
    let q : ℕ = get_or assets p 0 in
    added_at zero_asset asset_plus asset_plus_zero rows q x more (has_asset assets x p) within
    (λ same. eqb-true x q (sym (has_asset_is assets x p known) ∙ same)) (λ other. eqb-false x q (sym (has_asset_is assets x p known) ∙ other))

-- the row of x after a step
pub with_step_asset : (t : PlainTallies) (s : Step) (x : ℕ) → s.from < length t.assets → s.to < length t.assets → All (λ asset. asset < length t.sums) t.assets
    → asset_row (with_step t s).sums x ≡ asset_plus (asset_row t.sums x) (asset_part t.assets s x)
with_step_asset t s x from to within =
    let a : ℕ = get_or t.assets s.from 0 in
    let b : ℕ = get_or t.assets s.to 0 in
    let here : a < length t.sums = All-get_or (λ asset. asset < length t.sums) t.assets s.from 0 from within in
    let there : b < length t.sums = All-get_or (λ asset. asset < length t.sums) t.assets s.to 0 to within in
    let first : List AssetRow = add_asset t.sums a s.from_sums in
    let still : b < length first = omega (arith, there, length-set t.sums a (asset_plus (asset_row t.sums a) s.from_sums)) in
    add_asset_at t.assets first s.to x s.to_sums to still
    ∙ ap (λ r. asset_plus r (cond (has_asset t.assets x s.to) s.to_sums zero_asset)) (add_asset_at t.assets t.sums s.from x s.from_sums from here)
    ∙ asset_plus_assoc (asset_row t.sums x) (cond (has_asset t.assets x s.from) s.from_sums zero_asset) (cond (has_asset t.assets x s.to) s.to_sums zero_asset)

-- ---- lengths

-- no row of a peer is lost
pub with_step_peers-length : (t : PlainTallies) (s : Step) → length (with_step t s).peers ≡ length t.peers
with_step_peers-length t s =
    length-set (add_peer t.peers s.from s.from_row) s.to (peer_plus (peer_row (add_peer t.peers s.from s.from_row) s.to) s.to_row)
    ∙ length-set t.peers s.from (peer_plus (peer_row t.peers s.from) s.from_row)

-- no row of an asset is lost
pub with_step_sums-length : (t : PlainTallies) (s : Step) → length (with_step t s).sums ≡ length t.sums
with_step_sums-length t s =
    let a : ℕ = get_or t.assets s.from 0 in
    let b : ℕ = get_or t.assets s.to 0 in
    let first : List AssetRow = add_asset t.sums a s.from_sums in
    length-set first b (asset_plus (asset_row first b) s.to_sums) ∙ length-set t.sums a (asset_plus (asset_row t.sums a) s.from_sums)
