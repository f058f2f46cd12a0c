use Rattle.std.proofs.Common.{◌∙◌}
use Rattle.ilp_tallies.proofs.Beginning.{tallies_made}
use Rattle.ilp_tallies.proofs.tallies.Tallies.new.Goals as goal

-- each number is 0
pub returns : goal.returns
returns g c =
    tallies_made c.args.assets.items c.len-count.result c.args.asset_count c.args.base c.in_ok-peers.peers.items c.in_ok-asks.asks.items
    c.in_ok-no_assets.field-0.items c.requires (c.len-count.ensures ∙ c.args.assets.ok.0) c.in_ok-peers.ensures c.in_ok-asks.ensures c.in_ok-no_assets.ensures
