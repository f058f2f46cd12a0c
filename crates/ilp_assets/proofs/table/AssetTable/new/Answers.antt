use Rattle.std.proofs.Common.{◌∙◌, map}
use Rattle.ilp_assets.specs.Assets.{plain_asset}
use Rattle.ilp_assets.proofs.Verdicts.{prices_turn}
use Rattle.ilp_assets.proofs.table.AssetTable.new.Goals as goal

pub loop-price-preserved : goal.loop-price-preserved
loop-price-preserved g c =
    let turn = prices_turn c.args.prices.now c.loop-price.price-index _ c.loop-price-test.true (map plain_asset c.args.assets.now) c.loop-price.table c.loop-price.invariant.assets c.loop-price.invariant.prices c.in_ok-add.ensures.sound in
    record {
      assets = c.in_ok-add.ensures.assets ∙ c.loop-price.invariant.assets;
      prices = c.in_ok-add.ensures.added ∙ turn.0;
      rest = turn.1 ∙ c.loop-price.invariant.rest;
    }
