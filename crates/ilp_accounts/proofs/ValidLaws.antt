-- A table without a fault gives a valid configuration.
use Rattle.std.proofs.Common.{◌≡◌, ℕ, ◌≤◌, false, not, ◌==◌, List, [], length, get_or, take, Option, Some, None, option_map, refl, sym, ◌∙◌, arith, codes, All, Contains}
use Rattle.std.proofs.lemmas.Bool.{false≢true, or_parts}
use Rattle.std.proofs.lemmas.Map.Views.{Contains-from_any}
use Rattle.std.proofs.lemmas.Option.{slice_get-get_or}
use Rattle.std.proofs.lemmas.List.{length-map}
use Rattle.std.proofs.lemmas.List.Elements.{All-nil}
use Rattle.std.proofs.lemmas.Bool.Decides.{nat_tests}
use Rattle.toml.specs.Data.{Data, Members}
use Rattle.ilp_order.specs.Checks.{first_of}
use Rattle.ilp_assets.specs.declared.fault.AssetFault.{AssetFault}
use Rattle.ilp_assets.specs.Assets.{PlainAsset, PlainPrice}
use Rattle.ilp_assets.specs.Faults.{is_among, fault_of, price_fault as table_price_fault}
use Rattle.ilp_order.proofs.CheckLemmas.{when-None, first_along-at, passed}
use Rattle.ilp_order.proofs.RefusalLemmas.{not_true}
use Rattle.ilp_assets.proofs.Rates.{price_fault-None, fault_of-None}
use Rattle.ilp_assets.proofs.Sameness.{is_asset-Decides}
use Rattle.ilp_fields.specs.declared.fault.Field.TheVariants as field
use Rattle.ilp_fields.specs.declared.fault.ConfigFault.TheVariants.{Missing}
use Rattle.ilp_fields.specs.declared.form.Form.TheVariants as form
use Rattle.ilp_fields.specs.FromAssets.{from_assets}
use Rattle.ilp_fields.specs.Fields.{elements_of, tables}
use Rattle.ilp_accounts.specs.Configuration.{PlainArrays, settings_of, asset_from, price_from, peer_of, route_of, arrays_of, assets_of, prices_of, peers_of, peer_names, configuration}
use Rattle.ilp_accounts.specs.Limits.{most_assets, most_prices, most_peers, most_routes, most_workers, most_in_flight, most_percent, least_journal, most_journal, longest_ms, longest_rest_ms, most_scale, most_term}
use Rattle.ilp_accounts.specs.Faults.{settings_checks, settings_fault, arrays_checks, arrays_fault, asset_checks, asset_fault, price_checks, price_fault, assets_checks, assets_fault, peer_fault, route_fault, all_checks, first_fault}
use Rattle.ilp_accounts.specs.Valid.{IsValid, AreSettings, IsAsset, IsPrice, IsPeer, IsRouteTo, IsWithin}
use Rattle.ilp_accounts.proofs.Passing.{All-mapped, All-beside, distinct_beside, distinct_none}
use Rattle.ilp_accounts.proofs.FieldLaws.{text_formed, text_formed_or, number_ranged, number_ranged_if, number_ranged_or, AreTables, tables_counted}
use Rattle.ilp_accounts.proofs.PeerLaws.{is_peer, name_fresh, token_fresh, is_route, prefix_fresh}

-- top fields without a fault are settings
are_settings : (t : Members) → settings_fault t ≡ None → AreSettings (settings_of t)
unfolding settings_fault settings_of
are_settings t none =
    let checks = settings_checks t in
    record {
      address = text_formed form.Address field.Address t (passed checks none 0);
      run = text_formed form.Run field.Run t (passed checks none 1);
      listen = text_formed_or form.SocketAddress field.Listen t (codes "127.0.0.1:7768") refl (passed checks none 2);
      engine_listen = text_formed_or form.SocketAddress field.EngineListen t (codes "127.0.0.1:7769") refl (passed checks none 3);
      path = text_formed_or form.Path field.Path t (codes "/ilp") refl (passed checks none 4);
      workers = number_ranged_or 1 most_workers field.Workers t 4 (omega arith, omega arith) (passed checks none 5);
      journal = number_ranged_or least_journal most_journal field.Journal t 65536 (omega arith, omega arith) (passed checks none 6);
      window_ms = number_ranged_or 0 longest_ms field.WindowMs t 1000 (omega arith, omega arith) (passed checks none 7);
      max_hold_ms = number_ranged_or 1 longest_ms field.MaxHoldMs t 30000 (omega arith, omega arith) (passed checks none 8);
      sweep_ms = number_ranged_or 1 longest_rest_ms field.SweepMs t 100 (omega arith, omega arith) (passed checks none 9);
      settle_ms = number_ranged_or 1 longest_rest_ms field.SettleMs t 1000 (omega arith, omega arith) (passed checks none 10);
      in_flight = number_ranged_or 1 most_in_flight field.InFlight t 4096 (omega arith, omega arith) (passed checks none 12);
      new_period_at = number_ranged_if 1 most_percent field.NewPeriodAt t (passed checks none 13);
    }

-- how many tables the arrays have
pub record AreCounted (arrays : PlainArrays) : Type 0 where
  pub assets : IsWithin 1 most_assets (length (tables arrays.assets))
  pub prices : length (tables arrays.prices) ≤ most_prices
  pub peers : IsWithin 1 most_peers (length (tables arrays.peers))
  pub routes : length (tables arrays.routes) ≤ most_routes

some_tables : (most : ℕ) (values : List Data) → AreTables most values → (length values == 0) ≡ false → IsWithin 1 most (length (tables values))
some_tables most values counted some = (grind (arith, nat_tests, some, counted.0), omega (arith, counted.0, counted.1))

are_counted : (t : Members) → arrays_fault t ≡ None → AreCounted (arrays_of t)
unfolding arrays_fault arrays_of
are_counted t none =
    let checks = arrays_checks t in
    let prices = tables_counted most_prices field.Price t (passed checks none 2) in
    let routes = tables_counted most_routes field.Route t (passed checks none 5) in
    record {
      assets = some_tables most_assets (elements_of field.Asset t) (tables_counted most_assets field.Asset t (passed checks none 0)) (when-None _ (Missing field.Asset) (passed checks none 1));
      prices = omega (arith, prices.0, prices.1);
      peers = some_tables most_peers (elements_of field.Peer t) (tables_counted most_peers field.Peer t (passed checks none 3)) (when-None _ (Missing field.Peer) (passed checks none 4));
      routes = omega (arith, routes.0, routes.1);
    }

no_asset_fault : (fault : Option AssetFault) → option_map from_assets fault ≡ None → fault ≡ None
no_asset_fault None none = refl
no_asset_fault (Some fault) none = cc

-- an asset whose table has no fault is one
is_asset : (t : Members) → asset_fault t ≡ None → IsAsset (asset_from t)
is_asset t none =
    let checks = asset_checks t in
    record {
      code = text_formed form.Code field.Code t (passed checks none 0);
      scale = (number_ranged 0 most_scale field.Scale t (passed checks none 1)).1;
    }

-- p and q are not too great
AreTerms : PlainPrice → Type 0
AreTerms price = (price.p ≤ most_term) × (price.q ≤ most_term)

are_terms : (t : Members) → price_fault t ≡ None → AreTerms (price_from t)
unfolding price_fault price_from AreTerms
are_terms t none =
    let checks = price_checks t in
    ((number_ranged 0 most_term field.P t (passed checks none 2)).1, (number_ranged 0 most_term field.Q t (passed checks none 3)).1)

contained : (assets : List PlainAsset) (a : PlainAsset) → not (is_among assets a) ≡ false → Contains assets a
contained assets a h = Contains-from_any (λ x y. (is_asset-Decides x y).0) a assets (not_true _ h)

-- a price that the table takes, whose p and q are not too great
is_price : (assets : List PlainAsset) (before : List PlainPrice) (price : PlainPrice) → table_price_fault assets before price ≡ None → AreTerms price → IsPrice assets price
unfolding AreTerms
is_price assets before price none terms =
    let kept = price_fault-None assets before price none in
    let whole = or_parts (price.p == 0) (price.q == 0) kept.whole in
    record {
      from = contained assets price.from kept.from;
      to = contained assets price.to kept.to;
      other = λ same. false≢true (sym kept.two ∙ (is_asset-Decides price.from price.to).1 same);
      p = (grind (arith, nat_tests, whole.0), terms.0);
      q = (grind (arith, nat_tests, whole.1), terms.1);
      near = grind (arith, nat_tests, kept.near);
    }

module _ (arrays : PlainArrays) (none : assets_fault arrays ≡ None) where
  assets_pass : first_of (assets_checks arrays) ≡ None
  unfolding assets_fault
  assets_pass = none

  -- the table of assets has no fault
  sound : fault_of (assets_of arrays) (prices_of arrays) ≡ None
  sound = no_asset_fault _ (passed (assets_checks arrays) assets_pass 2)

  are_assets : All IsAsset (assets_of arrays)
  are_assets = All-mapped asset_fault asset_from IsAsset is_asset (tables arrays.assets) (passed (assets_checks arrays) assets_pass 0)

  are_prices : All (IsPrice (assets_of arrays)) (prices_of arrays)
  are_prices k d inside =
      let known = assets_of arrays in
      let prices = prices_of arrays in
      let terms = All-mapped price_fault price_from AreTerms are_terms (tables arrays.prices) (passed (assets_checks arrays) assets_pass 1) in
      let taken = first_along-at (table_price_fault known) [] prices k (get_or prices k d) (fault_of-None known prices sound).1 (slice_get-get_or prices k d inside) in
      is_price known (take k prices) (get_or prices k d) taken (terms k d inside)

module _ (t : Members) (none : first_fault t ≡ None) where
  all_pass : first_of (all_checks t) ≡ None
  unfolding first_fault settings_fault
  all_pass = none

  pub valid : IsValid (configuration t)
  valid =
      let known = assets_of (arrays_of t) in
      let peers = peers_of (arrays_of t) in
      let names = peer_names peers in
      let counted = are_counted t (passed (all_checks t) all_pass 1) in
      let peer_free = passed (all_checks t) all_pass 3 in
      let route_free = passed (all_checks t) all_pass 4 in
      let ps = tables (arrays_of t).peers in
      let rs = tables (arrays_of t).routes in
      record {
        settings = are_settings t (passed (all_checks t) all_pass 0);
        asset_count = rw (length-map (tables (arrays_of t).assets) asset_from) counted.assets;
        assets = are_assets (arrays_of t) (passed (all_checks t) all_pass 2);
        price_count = rw (length-map (tables (arrays_of t).prices) price_from) counted.prices;
        prices = are_prices (arrays_of t) (passed (all_checks t) all_pass 2);
        sound = sound (arrays_of t) (passed (all_checks t) all_pass 2);
        peer_count = rw (length-map ps (peer_of known)) counted.peers;
        peers = All-beside (peer_fault known) (peer_of known) (IsPeer (length known)) (is_peer known) [] ps (All-nil (IsPeer (length known))) peer_free;
        names = distinct_beside (peer_fault known) (peer_of known) (λ p. p.name) (name_fresh known) [] ps distinct_none peer_free;
        tokens = distinct_beside (peer_fault known) (peer_of known) (λ p. p.token) (token_fresh known) [] ps distinct_none peer_free;
        route_count = rw (length-map rs (route_of names)) counted.routes;
        routes = rw (← length-map peers (λ p. p.name)) (All-beside (route_fault names) (route_of names) (IsRouteTo (length names)) (is_route names) [] rs (All-nil (IsRouteTo (length names))) route_free);
        prefixes = distinct_beside (route_fault names) (route_of names) (λ r. r.prefix) (prefix_fresh names) [] rs distinct_none route_free;
      }
