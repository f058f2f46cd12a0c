use Rattle.std.proofs.Common.{◌≡◌, map, take}
use Rattle.ilp_assets.specs.Table.{plain_listed}
use Rattle.ilp_assets.proofs.listed.clones_of.Given as goal

-- the assets so far are copied
abbrev pub invariant-loop-listed : goal.invariant-loop-listed
invariant-loop-listed g l = map plain_listed l.clones.items ≡ map plain_listed (take l.listed-index l.assets)
