use Rattle.std.proofs.Common.{◌≡◌, ◌-◌, length, map, arith, ◌++◌, ◌∷◌, []}
use Rattle.std.proofs.lemmas.Grind.{common_steps}
use Rattle.ilp_assets.specs.Table.{plain_listed}
use Rattle.ilp_assets.proofs.Growing.{appended_indexed}
use Rattle.ilp_assets.proofs.table.AssetTable.append.Goals as goal

pub invariant_of-self-2 : goal.invariant_of-self-2
invariant_of-self-2 g c =
    let count : c.len.result ≡ length (map plain_listed c.self.inside.assets.items) = grind (arith, common_steps) in
    let after : c.push.new.self.items ≡ c.self.inside.prices.items ++ c.args.price ∷ [] = c.in_ok-push.ensures.items in
    let last : c.len-2.result - 1 ≡ length c.self.inside.prices.items = grind (arith, common_steps) in
    appended_indexed c.self.inside.assets.items c.self.inside.prices.items c.self.inside.index.items c.self.invariant c.args.self.now c.self.view_is c.args.price c.requires c.len.result (c.len-2.result - 1) count last c.push.new.self.items after
