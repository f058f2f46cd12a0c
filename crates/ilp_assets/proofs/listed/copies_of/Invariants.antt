use Rattle.std.proofs.Common.{◌≡◌, map, take}
use Rattle.ilp_assets.specs.Assets.{plain_asset}
use Rattle.ilp_assets.specs.Table.{plain_listed}
use Rattle.ilp_assets.proofs.listed.copies_of.Given as goal

-- the assets so far are copied
abbrev pub invariant-loop-asset : goal.invariant-loop-asset
invariant-loop-asset g l = map plain_listed l.copies.items ≡ map plain_asset (take l.asset-index l.assets)
