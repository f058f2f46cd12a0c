-- What the code holds, as plain data.
use Rattle.std.specs.Prelude.{◌≡◌, ℕ, List, map, option_map, string_bytes}
use Rattle.toml.specs.View.{view}
use Rattle.ilp_assets.specs.Assets.{plain_asset}
use Rattle.ilp_accounts.specs.declared.settings.Settings.{Settings}
use Rattle.ilp_accounts.specs.declared.arrays.Arrays.{Arrays}
use Rattle.ilp_accounts.specs.declared.peer.Peer.{Peer}
use Rattle.ilp_accounts.specs.declared.peer.PeerFields.{PeerFields}
use Rattle.ilp_accounts.specs.Configuration.{PlainSettings, PlainArrays, PlainPeer, PlainFields, peer_names, peer_tokens}

-- settings, by what a text of theirs is
abbrev pub plain_settings : {T : Type 0} → (T → List ℕ) → Settings T → PlainSettings
plain_settings text s = record {
  address = text s.address;
  run = text s.run;
  listen = text s.listen;
  engine_listen = text s.engine_listen;
  path = text s.path;
  workers = s.workers;
  journal = s.journal;
  window_ms = s.window_ms;
  max_hold_ms = s.max_hold_ms;
  sweep_ms = s.sweep_ms;
  settle_ms = s.settle_ms;
  sync = s.sync;
  in_flight = s.in_flight;
  new_period_at = s.new_period_at;
}

abbrev pub plain_arrays : Arrays → PlainArrays
plain_arrays a = record {
  assets = map view a.assets.now;
  prices = map view a.prices.now;
  peers = map view a.peers.now;
  routes = map view a.routes.now;
}

abbrev pub plain_peer : Peer → PlainPeer
plain_peer p = record {
  name = string_bytes p.name;
  asset = p.asset;
  token = string_bytes p.token;
  out_token = string_bytes p.out_token;
  host = string_bytes p.host;
  out_path = string_bytes p.out_path;
  least = p.least;
  fee_ppm = p.fee_ppm;
  max_packet = p.max_packet;
  engine = option_map string_bytes p.engine;
  levels = p.levels;
  settle_after_ms = p.settle_after_ms;
}

abbrev pub plain_fields : PeerFields → PlainFields
plain_fields f = record {
  name = f.name.now;
  asset = plain_asset f.asset;
  token = f.token.now;
  out_token = f.out_token.now;
  host = f.host.now;
  out_path = f.out_path.now;
  least = f.least;
  fee_ppm = f.fee_ppm;
  max_packet = f.max_packet;
  engine = option_map (λ text. text.now) f.engine;
  threshold = f.threshold;
  settle_to = f.settle_to;
  settle_max = f.settle_max;
  settle_after_ms = f.settle_after_ms;
}

-- the names and tokens that were kept beside peers are theirs
pub record AreKept (names tokens : List (List ℕ)) (peers : List PlainPeer) : Type 0 where
  pub same_names : names ≡ peer_names peers
  pub same_tokens : tokens ≡ peer_tokens peers
