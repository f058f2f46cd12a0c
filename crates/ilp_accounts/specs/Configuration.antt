-- A configuration as plain data, and the one that a table gives. Peers and assets are named by their places.
use Rattle.ilp_assets.specs.Quote.{most}
use Rattle.std.specs.Prelude.{ℕ, ℤ, pos, List, [], codes, map, slice_get, bytes_eq, if◌then◌else◌, Option, Some, None, unwrap_or}
use Rattle.std.specs.List.{position}
use Rattle.toml.specs.Data.{Data, Members}
use Rattle.ilp_lookup.specs.Route.{Route}
use Rattle.ilp_assets.specs.Assets.{PlainAsset, PlainPrice, PlainTable, place_of}
use Rattle.ilp_fields.specs.declared.fault.Field.TheVariants as field
use Rattle.ilp_accounts.specs.declared.peer.Levels.{Levels}
use Rattle.ilp_accounts.specs.declared.settings.LogSync.{LogSync}
use Rattle.ilp_accounts.specs.declared.settings.LogSync.TheVariants.{Group, Off}
use Rattle.ilp_fields.specs.Fields.{text_of, text_in, integer_of, integer_in, natural_of, natural_in, asset_of, elements_of, tables}

-- what stands at the top; times in milliseconds, the journal in entries, and the new period's beginning in percent of it
pub record PlainSettings : Type 0 where
  pub address : List ℕ
  pub run : List ℕ
  pub listen : List ℕ
  pub engine_listen : List ℕ
  pub path : List ℕ
  pub workers : ℕ
  pub journal : ℕ
  pub window_ms : ℕ
  pub max_hold_ms : ℕ
  pub sweep_ms : ℕ
  pub settle_ms : ℕ
  pub sync : LogSync
  pub in_flight : ℕ
  pub new_period_at : Option ℕ

-- a peer; amounts in units of its asset, and in milliseconds the wait before a settlement
pub record PlainPeer : Type 0 where
  pub name : List ℕ
  pub asset : ℕ
  pub token : List ℕ
  pub out_token : List ℕ
  pub host : List ℕ
  pub out_path : List ℕ
  pub least : ℤ
  pub fee_ppm : ℕ
  pub max_packet : ℕ
  pub engine : Option (List ℕ)
  pub levels : Option Levels
  pub settle_after_ms : ℕ

pub record Configuration : Type 0 where
  pub settings : PlainSettings
  pub table : PlainTable
  pub peers : List PlainPeer
  pub routes : List Route

-- what stands for a peer that isn't there
abbrev pub nobody : PlainPeer
nobody = record { name = []; asset = 0; token = []; out_token = []; host = []; out_path = []; least = pos 0; fee_ppm = 0; max_packet = 0; engine = None; levels = None; settle_after_ms = 0 }

-- the peer at a place
abbrev pub peer_at : Configuration → ℕ → PlainPeer
peer_at c peer = unwrap_or (slice_get c.peers peer) nobody

-- the names and the tokens of peers, in order
abbrev pub peer_names : List PlainPeer → List (List ℕ)
peer_names peers = map (λ p. p.name) peers

abbrev pub peer_tokens : List PlainPeer → List (List ℕ)
peer_tokens peers = map (λ p. p.token) peers

-- ---- what a table gives

-- what a text of the field stands for
abbrev pub sync_of : List ℕ → LogSync
sync_of text = if bytes_eq text (codes "off") then Off else Group

unfoldable pub settings_of : Members → PlainSettings
settings_of t = record {
  address = text_of field.Address t;
  run = text_of field.Run t;
  listen = unwrap_or (text_in field.Listen t) (codes "127.0.0.1:7768");
  engine_listen = unwrap_or (text_in field.EngineListen t) (codes "127.0.0.1:7769");
  path = unwrap_or (text_in field.Path t) (codes "/ilp");
  workers = unwrap_or (natural_in field.Workers t) 4;
  journal = unwrap_or (natural_in field.Journal t) 65536;
  window_ms = unwrap_or (natural_in field.WindowMs t) 1000;
  max_hold_ms = unwrap_or (natural_in field.MaxHoldMs t) 30000;
  sweep_ms = unwrap_or (natural_in field.SweepMs t) 100;
  settle_ms = unwrap_or (natural_in field.SettleMs t) 1000;
  sync = sync_of (unwrap_or (text_in field.Sync t) (codes "group"));
  in_flight = unwrap_or (natural_in field.InFlight t) 4096;
  new_period_at = natural_in field.NewPeriodAt t;
}

-- the elements of the arrays
pub record PlainArrays : Type 0 where
  pub assets : List Data
  pub prices : List Data
  pub peers : List Data
  pub routes : List Data

unfoldable pub arrays_of : Members → PlainArrays
arrays_of t = record {
  assets = elements_of field.Asset t;
  prices = elements_of field.Price t;
  peers = elements_of field.Peer t;
  routes = elements_of field.Route t;
}

abbrev pub asset_from : Members → PlainAsset
asset_from t = record { code = text_of field.Code t; scale = natural_of field.Scale t }

unfoldable pub price_from : Members → PlainPrice
price_from t = record {
  from = asset_of field.From t;
  to = asset_of field.To t;
  p = natural_of field.P t;
  q = natural_of field.Q t;
}

abbrev pub assets_of : PlainArrays → List PlainAsset
assets_of arrays = map asset_from (tables arrays.assets)

abbrev pub prices_of : PlainArrays → List PlainPrice
prices_of arrays = map price_from (tables arrays.prices)

abbrev pub table_of : PlainArrays → PlainTable
table_of arrays = record { assets = assets_of arrays; prices = prices_of arrays }

-- what stands in the fields of a peer's table
pub record PlainFields : Type 0 where
  pub name : List ℕ
  pub asset : PlainAsset
  pub token : List ℕ
  pub out_token : List ℕ
  pub host : List ℕ
  pub out_path : List ℕ
  pub least : ℤ
  pub fee_ppm : ℕ
  pub max_packet : ℕ
  pub engine : Option (List ℕ)
  pub threshold : Option ℤ
  pub settle_to : Option ℤ
  pub settle_max : Option ℕ
  pub settle_after_ms : Option ℕ

unfoldable pub fields_of : Members → PlainFields
fields_of t = record {
  name = text_of field.Name t;
  asset = asset_of field.Asset t;
  token = text_of field.Token t;
  out_token = text_of field.OutToken t;
  host = text_of field.Host t;
  out_path = unwrap_or (text_in field.OutPath t) (codes "/ilp");
  least = integer_of field.Least t;
  fee_ppm = unwrap_or (natural_in field.FeePpm t) 0;
  max_packet = unwrap_or (natural_in field.MaxPacket t) most;
  engine = text_in field.Engine t;
  threshold = integer_in field.Threshold t;
  settle_to = integer_in field.SettleTo t;
  settle_max = natural_in field.SettleMax t;
  settle_after_ms = natural_in field.SettleAfterMs t;
}

-- settling has levels where both are given, and a most amount if there is one
abbrev pub levels_from : Option ℤ → Option ℤ → Option ℕ → Option Levels
levels_from (Some threshold) (Some settle_to) settle_max = Some (record { threshold = threshold; settle_to = settle_to; settle_max = unwrap_or settle_max most })
levels_from _ _ settle_max = None

-- the peer of these fields, whose asset has this place
abbrev pub peer_with : ℕ → PlainFields → PlainPeer
peer_with place f = record {
  name = f.name;
  asset = place;
  token = f.token;
  out_token = f.out_token;
  host = f.host;
  out_path = f.out_path;
  least = f.least;
  fee_ppm = f.fee_ppm;
  max_packet = f.max_packet;
  engine = f.engine;
  levels = levels_from f.threshold f.settle_to f.settle_max;
  settle_after_ms = unwrap_or f.settle_after_ms 0;
}

unfoldable pub peer_from : List PlainAsset → PlainFields → PlainPeer
peer_from assets f = peer_with (unwrap_or (place_of assets f.asset) 0) f

abbrev pub peer_of : List PlainAsset → Members → PlainPeer
peer_of assets t = peer_from assets (fields_of t)

-- the place of a name among names
abbrev pub place_named : List (List ℕ) → List ℕ → Option ℕ
place_named names name = position (bytes_eq name) names

abbrev pub route_of : List (List ℕ) → Members → Route
route_of names t = record { prefix = text_of field.Prefix t; peer = unwrap_or (place_named names (text_of field.Peer t)) 0 }

abbrev pub peers_of : PlainArrays → List PlainPeer
peers_of arrays = map (peer_of (assets_of arrays)) (tables arrays.peers)

abbrev pub routes_of : PlainArrays → List Route
routes_of arrays = map (route_of (peer_names (peers_of arrays))) (tables arrays.routes)

abbrev pub configured : PlainSettings → PlainArrays → Configuration
configured settings arrays = record {
  settings = settings;
  table = table_of arrays;
  peers = peers_of arrays;
  routes = routes_of arrays;
}

abbrev pub configuration : Members → Configuration
configuration t = configured (settings_of t) (arrays_of t)
