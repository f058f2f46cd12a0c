use Rattle.std.proofs.Common.{◌≡◌, map, drop}
use Rattle.std.specs.List.{list_any}
use Rattle.ilp_assets.specs.Assets.{plain_asset, is_asset}
use Rattle.ilp_assets.specs.Faults.{is_among}
use Rattle.ilp_assets.proofs.given.is_among.Given as goal

-- whether it is among the assets from here on decides
abbrev pub invariant-loop-asset : goal.invariant-loop-asset
invariant-loop-asset l = list_any (is_asset (plain_asset l.wanted)) (map plain_asset (drop l.asset-index l.assets)) ≡ is_among (map plain_asset l.assets) (plain_asset l.wanted)
