use Rattle.std.proofs.Common.{◌≡◌, ◌∙◌, sym, ap, length, map, ◌*◌, ◌<◌, ◌^◌, replicate, None}
use Rattle.std.proofs.lemmas.List.{length-map}
use Rattle.ilp_assets.specs.Assets.{plain_asset}
use Rattle.ilp_assets.specs.Faults.{fault_of_assets}
use Rattle.ilp_assets.specs.Table.{plain_listed, plain_placed, plain_table}
use Rattle.ilp_assets.proofs.Growing.{unpriced_indexed}
use Rattle.ilp_assets.proofs.table.AssetTable.unpriced.Goals as goal

pub invariant_of-result : goal.invariant_of-result
invariant_of-result g c =
    let same : map plain_listed c.in_ok-assets.assets.items ≡ map plain_asset c.args.assets.now = c.in_ok-assets.ensures in
    let count : length c.args.assets.now ≡ length (map plain_listed c.in_ok-assets.assets.items) = sym (ap length same ∙ length-map c.args.assets.now plain_asset) in
    let sound : fault_of_assets (map plain_listed c.in_ok-assets.assets.items) ≡ None = ap fault_of_assets same ∙ c.requires in
    let few : length (map plain_listed c.in_ok-assets.assets.items) < 2 ^ 32 = rw (← count) c.in_ok-index.ensures.few in
    unpriced_indexed (plain_table c.in_ok-assets.assets.items c.new.result.items) c.in_ok-index.index.items sound (ap (map (plain_placed (map plain_listed c.in_ok-assets.assets.items))) c.new.ensures.items) few (c.in_ok-index.ensures.items ∙ ap (λ n. replicate (n * n) None) count)
