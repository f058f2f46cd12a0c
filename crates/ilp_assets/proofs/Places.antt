-- Assets without a fault are distinct, so an asset has one place.
use Rattle.std.proofs.Common.{◌≡◌, ◌≢◌, ℕ, ◌+◌, ◌*◌, ◌/◌, ◌<◌, ◌≤◌, true, false, List, [], length, get_or, take, sym, ◌∙◌, ap, arith, inl, inr, Option, Some, None}
use Rattle.std.specs.Prelude.{unwrap_or, is_some, IfSome}
use Rattle.std.proofs.lemmas.Option.{slice_get-get_or, unwrap_or-slice_get}
use Rattle.std.proofs.lemmas.List.{get_or-take, length-take-le}
use Rattle.std.proofs.lemmas.List.Folds.{list_any_at}
use Rattle.std.proofs.lemmas.Bool.{cases_order}
use Rattle.std.proofs.lemmas.Nat.{div-mul-add}
use Rattle.ilp_assets.specs.declared.fault.AssetFault.TheVariants.{DoubleAsset}
use Rattle.ilp_assets.specs.Assets.{PlainAsset, is_asset, asset_at, no_asset, place_of}
use Rattle.ilp_assets.specs.Faults.{is_among, asset_fault, fault_of_assets}
use Rattle.ilp_order.proofs.CheckLemmas.{when-None, first_along-at}
use Rattle.ilp_assets.proofs.Sameness.{is_asset-Decides}
use Rattle.ilp_assets.proofs.Finding.{position_from-Some, position_from-any}

-- within the list, the asset at a place stands there
pub asset_at-get_or : (assets : List PlainAsset) (x : ℕ) → asset_at assets x ≡ get_or assets x no_asset
asset_at-get_or assets x = unwrap_or-slice_get assets x no_asset

-- an asset at an earlier place differs
pub earlier-differs : (assets : List PlainAsset) → fault_of_assets assets ≡ None → (x y : ℕ) → x < y → y < length assets → asset_at assets x ≢ asset_at assets y
earlier-differs assets sound x y before within same =
    let a : PlainAsset = get_or assets y no_asset in
    let clean : is_among (take y assets) a ≡ false = when-None (is_among (take y assets) a) DoubleAsset (first_along-at asset_fault [] assets y a sound (slice_get-get_or assets y no_asset within)) in
    let here : get_or (take y assets) x no_asset ≡ asset_at assets x = get_or-take y assets x no_asset before ∙ sym (asset_at-get_or assets x) in
    let passes : is_asset a (get_or (take y assets) x no_asset) ≡ true = (is_asset-Decides a (get_or (take y assets) x no_asset)).1 (sym (asset_at-get_or assets y) ∙ sym same ∙ sym here) in
    let within_le : y ≤ length assets = omega arith in
    let inside : x < length (take y assets) = omega (arith, length-take-le y assets within_le) in
    let found : is_among (take y assets) a ≡ true = list_any_at (is_asset a) (take y assets) x no_asset inside passes in
    cc

-- equal assets stand at one place
pub one_place : (assets : List PlainAsset) → fault_of_assets assets ≡ None → (x y : ℕ) → x < length assets → y < length assets → asset_at assets x ≡ asset_at assets y → x ≡ y
one_place assets sound x y here there same =
    elim (cases_order x y) [
      | inl equal ↦ equal
      | inr unequal ↦ elim unequal [
        | inl before ↦ absurd (earlier-differs assets sound x y before there same)
        | inr after ↦ absurd (earlier-differs assets sound y x after here (sym same))
      ]
    ]

-- two pairs of places with one index are one pair
pub same_pair : (n x y u v : ℕ) → y < n → v < n → x * n + y ≡ u * n + v → (x ≡ u) × (y ≡ v)
same_pair n x y u v inside within same =
    let row : x ≡ u = sym (div-mul-add x n y inside) ∙ ap (λ k. k / n) same ∙ div-mul-add u n v within in
    (row, let e : x * n ≡ u * n = ap (λ k. k * n) row in omega arith)

-- the place of an asset has it
pub place_of-at : (assets : List PlainAsset) (a : PlainAsset) (k : ℕ) → place_of assets a ≡ Some k → asset_at assets k ≡ a
place_of-at assets a k found =
    let first = position_from-Some (is_asset a) 0 assets k found in
    let counted : k ≡ first.place = omega (arith, first.counted) in
    let same : a ≡ first.element = (is_asset-Decides a first.element).0 first.passes in
    ap (asset_at assets) counted ∙ ap (λ o. unwrap_or o no_asset) first.at ∙ sym same

-- an asset is among others where it has a place
pub place_of-among : (assets : List PlainAsset) (a : PlainAsset) → is_some (place_of assets a) ≡ is_among assets a
place_of-among assets a = position_from-any (is_asset a) 0 assets

-- a place that was found for an asset has it
pub if_placed : (assets : List PlainAsset) (a : PlainAsset) (r : Option ℕ) → r ≡ place_of assets a → IfSome r (λ k. asset_at assets k ≡ a)
if_placed assets a None e = tt
if_placed assets a (Some k) e = place_of-at assets a k (sym e)
