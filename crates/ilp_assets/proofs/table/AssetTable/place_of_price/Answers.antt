use Rattle.std.proofs.Common.{◌≡◌, length, arith}
use Rattle.std.proofs.lemmas.Grind.{common_steps}
use Rattle.ilp_assets.specs.Table.{plain_table}
use Rattle.ilp_assets.proofs.Rates.{read_place}
use Rattle.ilp_assets.proofs.table.AssetTable.place_of_price.Goals as goal

pub returns : goal.returns
returns g c =
    let T = plain_table c.self.inside.assets.items c.self.inside.prices.items in
    let count : c.len.result ≡ length T.assets = grind (arith, common_steps) in
    read_place T c.args.self.now c.self.inside.index.items c.self.invariant c.self.view_is c.args.from c.args.to c.len.result c.requires.from c.requires.to count c.index.result.now c.index.ensures
