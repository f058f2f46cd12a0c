use Rattle.std.proofs.Common.{◌≡◌, map, take, drop}
use Rattle.ilp_order.specs.Checks.{first_along}
use Rattle.ilp_assets.specs.Assets.{plain_asset, plain_price}
use Rattle.ilp_assets.specs.Faults.{fault_of_prices, price_fault}
use Rattle.ilp_assets.proofs.table.AssetTable.new.Given as goal

-- the prices so far stand in the table, and the first fault from here on is the first of all
abbrev pub invariant-loop-price : goal.invariant-loop-price
invariant-loop-price g l = record {
  assets : l.table.assets ≡ map plain_asset l.assets;
  prices : l.table.prices ≡ map plain_price (take l.price-index l.prices);
  rest : first_along (price_fault (map plain_asset l.assets)) (map plain_price (take l.price-index l.prices)) (map plain_price (drop l.price-index l.prices)) ≡ fault_of_prices (map plain_asset l.assets) (map plain_price l.prices);
}
