use Rattle.std.proofs.Common.{◌≡◌, drop, map}
use Rattle.std.specs.List.{position_from}
use Rattle.ilp_assets.specs.Assets.{plain_asset, is_asset, place_of}
use Rattle.ilp_assets.specs.Table.{plain_listed}
use Rattle.ilp_assets.proofs.listed.place_of.Given as goal

-- the first place from here on is the first of all
abbrev pub invariant-loop-place : goal.invariant-loop-place
invariant-loop-place g l = position_from (is_asset (plain_asset l.fn.wanted)) l.place (map plain_listed (drop l.place l.assets)) ≡ place_of (map plain_listed l.assets) (plain_asset l.fn.wanted)
