-- How a table of assets lies in memory.
use Rattle.std.specs.Prelude.{◌≡◌, ℕ, ◌+◌, ◌*◌, ◌<◌, ◌≤◌, ◌^◌, List, Option, Some, None, true, false, ◌||◌, ◌==◌, length, map, slice_get, string_bytes}
use Rattle.std.specs.List.{position_from}
use Rattle.std.specs.Int.{abs_diff}
use Rattle.ilp_assets.specs.declared.listed.Listed.{Listed}
use Rattle.ilp_assets.specs.declared.table.Placed.{Placed}
use Rattle.ilp_assets.specs.Assets.{PlainAsset, PlainPrice, PlainTable, asset_at, is_asset, is_price_of}
use Rattle.ilp_assets.specs.Faults.{most_scale_gap, is_among, fault_of, price_fault}
use Rattle.ilp_assets.specs.Quote.{price_of, scale_of}

abbrev pub plain_listed : {Y : Type 0} → Listed Y → PlainAsset
plain_listed a = record { code = string_bytes a.code; scale = a.scale }

-- a price whose assets are told by their places
abbrev pub plain_placed : List PlainAsset → Placed → PlainPrice
plain_placed assets price = record { from = asset_at assets price.from; to = asset_at assets price.to; p = price.p; q = price.q }

abbrev pub plain_table : {Y : Type 0} → List (Listed Y) → List Placed → PlainTable
plain_table assets prices = record {
  assets = map plain_listed assets;
  prices = map (plain_placed (map plain_listed assets)) prices;
}

-- the place of the first price of the ordered pair of the assets x and y
abbrev pub place_of_price : PlainTable → ℕ → ℕ → Option ℕ
place_of_price T x y = position_from (is_price_of (asset_at T.assets x) (asset_at T.assets y)) 0 T.prices

-- A table has no fault, its assets are named by 32 bits, and the index tells for each ordered pair of places where its price stands.
pub record IsIndexed (T : PlainTable) (index : List (Option ℕ)) : Type 0 where
  pub sound : fault_of T.assets T.prices ≡ None
  pub few : length T.assets < 2 ^ 32
  pub square : length index ≡ length T.assets * length T.assets
  pub places : (x y : ℕ) → x < length T.assets → y < length T.assets → slice_get index (x * length T.assets + y) ≡ Some (place_of_price T x y)

-- p / q is the price of the asset x in the asset y, not 0, and their scales are near each other
pub record IsPrice (T : PlainTable) (x y p q : ℕ) : Type 0 where
  pub price : PlainPrice
  pub priced : price_of T x y ≡ Some price
  pub numerator : p ≡ price.p
  pub denominator : q ≡ price.q
  pub whole : 0 < q
  pub near : abs_diff (scale_of T x) (scale_of T y) ≤ most_scale_gap

-- a price of two different assets of a table, by their places, without a 0
pub record IsNamed (T : PlainTable) (price : PlainPrice) (placed : Placed) : Type 0 where
  pub from : placed.from < length T.assets
  pub to : placed.to < length T.assets
  pub is : plain_placed T.assets placed ≡ price
  pub from_known : is_among T.assets price.from ≡ true
  pub to_known : is_among T.assets price.to ≡ true
  pub whole : ((price.p == 0) || (price.q == 0)) ≡ false
  pub two : is_asset price.from price.to ≡ false

-- a price that can be the next of a table: its pair has none yet
pub record IsNext (T : PlainTable) (price : Placed) : Type 0 where
  pub from : price.from < length T.assets
  pub to : price.to < length T.assets
  pub fresh : place_of_price T price.from price.to ≡ None
  pub sound : price_fault T.assets T.prices (plain_placed T.assets price) ≡ None
