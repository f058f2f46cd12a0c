-- The names of a valid configuration fit their column.
use Rattle.std.proofs.Common.{ℕ, ◌<◌, ◌≤◌, ◌++◌, length, sym, subst, arith, lit<, length-append, get_or}
use Rattle.std.specs.Prelude.{Bool, ◌&&◌, IsTrue, codes}
use Rattle.std.specs.Fmt.{decimal}
use Rattle.std.proofs.lemmas.Fmt.{length-decimal-le}
use Rattle.std.proofs.lemmas.Option.{unwrap_or-slice_get}
use Rattle.std.proofs.lemmas.List.Elements.{All-get_or}
use Rattle.std.proofs.lemmas.Bool.Decides.{nat_tests}
use Rattle.ilp_assets.specs.Assets.{no_asset, asset_at}
use Rattle.ilp_accounts.specs.Forms.{is_within}
use Rattle.ilp_accounts.specs.Configuration.{Configuration, PlainPeer, nobody, peer_at}
use Rattle.ilp_accounts.specs.Valid.{IsValid, IsPeer, IsAsset}
use Rattle.ilp_report.specs.Report.{asset_name}
use Rattle.ilp_report.specs.Columns.{IsShort}

-- a length that was tested
pub within_test : (least most n : ℕ) (b : Bool) → IsTrue (is_within least most n && b) → n ≤ most
within_test least most n b test = grind (arith, nat_tests)

-- that of a peer
pub peer_name_is_short : (C : Configuration) → IsValid C → (p : ℕ) → p < length C.peers → IsShort (peer_at C p).name
peer_name_is_short C valid p known =
    let here : IsPeer (length C.table.assets) (get_or C.peers p nobody) = All-get_or (IsPeer (length C.table.assets)) C.peers p nobody known valid.peers in
    let short : length (get_or C.peers p nobody).name ≤ 16 = within_test 1 16 (length (get_or C.peers p nobody).name) _ here.name in
    let there : length (peer_at C p).name ≤ 16 = subst (λ (q : PlainPeer). length q.name ≤ 16) (sym (unwrap_or-slice_get C.peers p nobody)) short in
    omega (arith, there)

-- that of an asset
pub asset_name_is_short : (C : Configuration) → IsValid C → (x : ℕ) → x < length C.table.assets → IsShort (asset_name (asset_at C.table.assets x))
asset_name_is_short C valid x known =
    let assets = C.table.assets in
    let here : IsAsset (get_or assets x no_asset) = All-get_or IsAsset assets x no_asset known valid.assets in
    let there : IsAsset (asset_at assets x) = subst IsAsset (sym (unwrap_or-slice_get assets x no_asset)) here in
    let a = asset_at assets x in
    let code : length a.code ≤ 12 = within_test 1 12 (length a.code) _ there.code in
    let low : a.scale ≤ 255 = there.scale in
    let digits : length (decimal a.scale) ≤ 3 = length-decimal-le 3 a.scale (lit< tt) (omega (arith, low)) (omega (arith, low)) in
    omega (arith, code, digits, length-append a.code (codes "/" ++ decimal a.scale))
