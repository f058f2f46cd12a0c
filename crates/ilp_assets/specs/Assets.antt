-- Assets and their prices. An asset is a code together with a scale.
use Rattle.std.specs.Prelude.{ℕ, Bool, Option, ◌&&◌, ◌==◌, List, [], slice_get, unwrap_or, bytes_eq}
use Rattle.std.specs.List.{position_from}
use Rattle.ilp_assets.specs.declared.asset.Asset.{Asset}
use Rattle.ilp_assets.specs.declared.asset.Price.{Price}

-- an asset, apart from where its code lies in memory
pub record PlainAsset : Type 0 where
  pub code : List ℕ
  pub scale : ℕ

-- the price of an asset in another: p / q
pub record PlainPrice : Type 0 where
  pub from : PlainAsset
  pub to : PlainAsset
  pub p : ℕ
  pub q : ℕ

-- what a table of assets holds, each list in the order in which it was given
pub record PlainTable : Type 0 where
  pub assets : List PlainAsset
  pub prices : List PlainPrice

abbrev pub plain_asset : Asset → PlainAsset
plain_asset a = record { code = a.code.now; scale = a.scale }

abbrev pub plain_price : Price → PlainPrice
plain_price price = record { from = plain_asset price.from; to = plain_asset price.to; p = price.p; q = price.q }

-- whether two assets are one: code and scale are equal
abbrev pub is_asset : PlainAsset → PlainAsset → Bool
is_asset a b = bytes_eq a.code b.code && (a.scale == b.scale)

-- whether a price is that of the ordered pair of a and b
abbrev pub is_price_of : PlainAsset → PlainAsset → PlainPrice → Bool
is_price_of a b price = is_asset a price.from && is_asset b price.to

-- what stands for an asset that is not there
abbrev pub no_asset : PlainAsset
no_asset = record { code = []; scale = 0 }

-- the asset at a place
abbrev pub asset_at : List PlainAsset → ℕ → PlainAsset
asset_at assets x = unwrap_or (slice_get assets x) no_asset

-- the first place at which an asset stands
abbrev pub place_of : List PlainAsset → PlainAsset → Option ℕ
place_of assets a = position_from (is_asset a) 0 assets
