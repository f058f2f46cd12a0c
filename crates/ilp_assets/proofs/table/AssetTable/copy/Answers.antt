use Rattle.std.proofs.Common.{◌≡◌, ◌∙◌, ap, map}
use Rattle.ilp_assets.specs.Table.{plain_listed, plain_table}
use Rattle.ilp_assets.proofs.Growing.{same_table, copied_indexed}
use Rattle.ilp_assets.proofs.table.AssetTable.copy.Goals as goal

pub invariant_of-result : goal.invariant_of-result
invariant_of-result g c =
    let assets : map plain_listed c.in_ok-assets.assets.items ≡ map plain_listed c.self.inside.assets.items = c.in_ok-assets.ensures ∙ ap (map plain_listed) c.deref.ensures.value in
    let same = same_table c.self.inside.assets.items c.in_ok-assets.assets.items c.self.inside.prices.items c.in_ok-prices.prices.items assets (c.in_ok-prices.ensures.items ∙ c.deref-2.ensures.value) in
    copied_indexed (plain_table c.self.inside.assets.items c.self.inside.prices.items) (plain_table c.in_ok-assets.assets.items c.in_ok-prices.prices.items) c.self.inside.index.items c.in_ok-index.index.items same (c.in_ok-index.ensures.items ∙ c.deref-3.ensures.value) c.self.invariant
