use Rattle.std.proofs.Common.{◌≡◌, ◌∙◌, ap, rules}
use Rattle.std.specs.Prelude.{is_some}
use Rattle.ilp_assets.specs.Assets.{plain_asset, place_of}
use Rattle.ilp_assets.proofs.Places.{if_placed, place_of-among}
use Rattle.ilp_assets.proofs.table.AssetTable.known.Goals as goal

pub returns-clause-found : goal.returns-clause-found
returns-clause-found g c =
    let place : c.place_of.result ≡ place_of c.args.self.now.assets (plain_asset c.args.asset) = search rules in
    if_placed c.args.self.now.assets (plain_asset c.args.asset) c.place_of.result place

pub returns-clause-among : goal.returns-clause-among
returns-clause-among g c =
    let place : c.place_of.result ≡ place_of c.args.self.now.assets (plain_asset c.args.asset) = search rules in
    ap is_some place ∙ place_of-among c.args.self.now.assets (plain_asset c.args.asset)
