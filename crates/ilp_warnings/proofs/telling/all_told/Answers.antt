use Rattle.toml.specs.View.{table_view}
use Rattle.ilp_warnings.specs.declared.warning.ConfigTable.TheVariants.{Top, Asset, Price, Peer}
use Rattle.ilp_warnings.specs.Complete.{KeepsAll}
use Rattle.ilp_warnings.proofs.KeysTold.{table_kept}
use Rattle.ilp_warnings.proofs.Keeping.{top_kept, peers_kept}
use Rattle.ilp_warnings.proofs.telling.all_told.Goals as goal

pub returns-clause-complete : goal.returns-clause-complete
returns-clause-complete c =
    let C = c.args.examined.config.now in
    let t = table_view c.args.examined.table.now in
    let end = c.tell_routes.new.told.items in
    let routes = c.in_ok-tell_routes.ensures in
    let peers = c.in_ok-tell_peers.ensures in
    let after_prices : KeepsAll c.tell_prices.new.told.items end = λ w has. routes.kept w (peers.kept w has) in
    let after_assets : KeepsAll c.tell_assets.new.told.items end = λ w has. after_prices w (c.in_ok-tell_prices.ensures.kept w has) in
    let after_top : KeepsAll c.tell_top.new.told.items end = λ w has. after_assets w (c.in_ok-tell_assets.ensures.kept w has) in
    let after_fields : KeepsAll c.tell_fields.new.told.items end = λ w has. after_top w (c.in_ok-tell_top.ensures.kept w has) in
    record {
      fields = record {
        top = table_kept t Top _ _ after_fields c.in_ok-tell_fields.ensures.fields;
        assets = λ n below. table_kept t (Asset n) _ _ after_assets (c.in_ok-tell_assets.ensures.fields n below);
        prices = λ n below. table_kept t (Price n) _ _ after_prices (c.in_ok-tell_prices.ensures.fields n below);
        peers = λ n below. table_kept t (Peer n) _ _ routes.kept (peers.fields n below);
        routes = routes.fields;
      };
      top = top_kept _ _ after_top C c.in_ok-tell_top.ensures.top;
      peers = peers_kept _ _ routes.kept C c.args.examined.targets.now _ peers.peers;
      routes = routes.routes;
    }
