use Rattle.std.proofs.Common.{map}
use Rattle.ilp_order.specs.Checks.{first_of}
use Rattle.ilp_assets.specs.Assets.{plain_price}
use Rattle.ilp_accounts.specs.Configuration.{price_from}
use Rattle.ilp_accounts.specs.Faults.{price_fault}
use Rattle.ilp_accounts.proofs.Turns.{IsRead}
use Rattle.ilp_accounts.proofs.assets.prices_of.Given as goal

abbrev pub invariant-loop-value : goal.invariant-loop-value
invariant-loop-value l = IsRead (λ before ts. first_of (map price_fault ts)) price_from l.values l.value-index (map plain_price l.prices.items)
