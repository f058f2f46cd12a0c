use Rattle.std.proofs.Common.{map}
use Rattle.ilp_order.specs.Checks.{first_of}
use Rattle.ilp_assets.specs.Assets.{plain_asset}
use Rattle.ilp_accounts.specs.Configuration.{asset_from}
use Rattle.ilp_accounts.specs.Faults.{asset_fault}
use Rattle.ilp_accounts.proofs.Turns.{IsRead}
use Rattle.ilp_accounts.proofs.assets.assets_of.Given as goal

abbrev pub invariant-loop-value : goal.invariant-loop-value
invariant-loop-value l = IsRead (λ before ts. first_of (map asset_fault ts)) asset_from l.values l.value-index (map plain_asset l.assets.items)
