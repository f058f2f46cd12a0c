use Rattle.ilp_assets.proofs.Rates.{same_asset}
use Rattle.ilp_assets.proofs.table.AssetTable.rate.Goals as goal

pub returns-then-from-to-clause-priced : goal.returns-then-from-to-clause-priced
returns-then-from-to-clause-priced g c = same_asset c.args.self.now c.args.from c.args.to c.if-from-to.true
