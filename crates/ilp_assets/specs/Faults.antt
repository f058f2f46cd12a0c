-- The first fault of assets and their prices.
use Rattle.std.specs.Prelude.{ℕ, Bool, not, ◌||◌, ◌==◌, nat_lt, List, [], ◌∷◌, Option}
use Rattle.std.specs.Int.{abs_diff}
use Rattle.std.specs.List.{list_any}
use Rattle.ilp_order.specs.Checks.{first_of, when, first_along}
use Rattle.ilp_assets.specs.declared.fault.AssetFault.{AssetFault}
use Rattle.ilp_assets.specs.declared.fault.AssetFault.TheVariants.{DoubleAsset, NoSuchAsset, ZeroPrice, DoublePrice, ScaleGap}
use Rattle.ilp_assets.specs.Assets.{PlainAsset, PlainPrice, is_asset, is_price_of}

-- whether an asset is among these
abbrev pub is_among : List PlainAsset → PlainAsset → Bool
is_among assets a = list_any (is_asset a) assets

-- by how much the scales of a price's assets may differ at most
abbrev pub most_scale_gap : ℕ
most_scale_gap = 9

-- an asset is given once
abbrev pub asset_fault : List PlainAsset → PlainAsset → Option AssetFault
asset_fault before a = when (is_among before a) DoubleAsset

-- A price is of two different assets that are given, each pair has one, neither p nor q is 0, and the scales differ by at most 9.
unfoldable pub price_fault : List PlainAsset → List PlainPrice → PlainPrice → Option AssetFault
price_fault assets before price = first_of (
    when (not (is_among assets price.from)) NoSuchAsset
    ∷ when (not (is_among assets price.to)) NoSuchAsset
    ∷ when ((price.p == 0) || (price.q == 0)) ZeroPrice
    ∷ when (is_asset price.from price.to) DoublePrice
    ∷ when (list_any (is_price_of price.from price.to) before) DoublePrice
    ∷ when (nat_lt most_scale_gap (abs_diff price.from.scale price.to.scale)) ScaleGap
    ∷ [])

-- the first fault of the assets alone
abbrev pub fault_of_assets : List PlainAsset → Option AssetFault
fault_of_assets assets = first_along asset_fault [] assets

-- the first fault of the prices, where the assets have none
abbrev pub fault_of_prices : List PlainAsset → List PlainPrice → Option AssetFault
fault_of_prices assets prices = first_along (price_fault assets) [] prices

-- the first fault, or none: that of the assets, and then of each price in order
unfoldable pub fault_of : List PlainAsset → List PlainPrice → Option AssetFault
fault_of assets prices = first_of (fault_of_assets assets ∷ fault_of_prices assets prices ∷ [])
