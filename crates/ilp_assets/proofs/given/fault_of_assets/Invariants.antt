use Rattle.std.proofs.Common.{◌≡◌, map, take, drop}
use Rattle.ilp_order.specs.Checks.{first_along}
use Rattle.ilp_assets.specs.Assets.{plain_asset}
use Rattle.ilp_assets.specs.Faults.{asset_fault, fault_of_assets}
use Rattle.ilp_assets.proofs.given.fault_of_assets.Given as goal

-- the first fault from here on is the first of all
abbrev pub invariant-loop-place : goal.invariant-loop-place
invariant-loop-place l = first_along asset_fault (map plain_asset (take l.place l.assets)) (map plain_asset (drop l.place l.assets)) ≡ fault_of_assets (map plain_asset l.assets)
