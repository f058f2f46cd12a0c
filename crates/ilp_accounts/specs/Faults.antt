-- The faults of a table, each check in its order.
use Rattle.ilp_assets.specs.Quote.{million}
use Rattle.std.specs.Prelude.{◌≡◌, ℕ, ℤ, pos, Bool, true, false, not, ◌&&◌, ◌==◌, int_lt, int_le, List, [], ◌∷◌, length, map, bytes_eq, Option, Some, None, is_some, is_none, option_map, IsUtf8}
use Rattle.std.specs.List.{list_any}
use Rattle.toml.specs.Data.{Members}
use Rattle.toml.specs.Parse.{parse_document}
use Rattle.ilp_order.specs.Checks.{first_of, when}
use Rattle.ilp_assets.specs.Assets.{PlainAsset, place_of}
use Rattle.ilp_assets.specs.Faults.{fault_of}
use Rattle.ilp_lookup.specs.Route.{Route, prefixes}
use Rattle.ilp_fields.specs.declared.form.Form.TheVariants as form
use Rattle.ilp_fields.specs.declared.fault.Field.TheVariants as field
use Rattle.ilp_fields.specs.declared.fault.ConfigFault.{ConfigFault}
use Rattle.ilp_fields.specs.declared.fault.ConfigFault.TheVariants.{Missing, BadValue, NoSuchAsset, DoublePeer, DoubleToken, DoubleRoute, BadLevels}
use Rattle.ilp_fields.specs.FromAssets.{from_assets}
use Rattle.ilp_fields.specs.Checks.{required, optional, first_beside}
use Rattle.ilp_fields.specs.Fields.{is_text, is_natural, is_integer, is_asset, are_tables, text_of, elements_of, tables}
use Rattle.ilp_accounts.specs.Limits.{most_assets, most_prices, most_peers, most_routes, most_workers, most_in_flight, most_percent, least_journal, most_journal, longest_ms, longest_rest_ms, longest_wait_ms, most_scale, most_term, most_written}
use Rattle.ilp_accounts.specs.Configuration.{PlainPeer, PlainFields, PlainArrays, peer_names, peer_tokens, place_named, fields_of, peer_of, route_of, arrays_of, assets_of, prices_of, peers_of}

-- the top fields
abbrev pub settings_checks : Members → List (Option ConfigFault)
settings_checks t =
    required (is_text form.Address) field.Address t
    ∷ required (is_text form.Run) field.Run t
    ∷ optional (is_text form.SocketAddress) field.Listen t
    ∷ optional (is_text form.SocketAddress) field.EngineListen t
    ∷ optional (is_text form.Path) field.Path t
    ∷ optional (is_natural 1 most_workers) field.Workers t
    ∷ optional (is_natural least_journal most_journal) field.Journal t
    ∷ optional (is_natural 0 longest_ms) field.WindowMs t
    ∷ optional (is_natural 1 longest_ms) field.MaxHoldMs t
    ∷ optional (is_natural 1 longest_rest_ms) field.SweepMs t
    ∷ optional (is_natural 1 longest_rest_ms) field.SettleMs t
    ∷ optional (is_text form.Sync) field.Sync t
    ∷ optional (is_natural 1 most_in_flight) field.InFlight t
    ∷ optional (is_natural 1 most_percent) field.NewPeriodAt t
    ∷ []

unfoldable pub settings_fault : Members → Option ConfigFault
settings_fault t = first_of (settings_checks t)

-- the arrays: at least one asset and one peer
abbrev pub arrays_checks : Members → List (Option ConfigFault)
arrays_checks t =
    optional (are_tables most_assets) field.Asset t
    ∷ when (length (elements_of field.Asset t) == 0) (Missing field.Asset)
    ∷ optional (are_tables most_prices) field.Price t
    ∷ optional (are_tables most_peers) field.Peer t
    ∷ when (length (elements_of field.Peer t) == 0) (Missing field.Peer)
    ∷ optional (are_tables most_routes) field.Route t
    ∷ []

unfoldable pub arrays_fault : Members → Option ConfigFault
arrays_fault t = first_of (arrays_checks t)

abbrev pub asset_checks : Members → List (Option ConfigFault)
asset_checks t =
    required (is_text form.Code) field.Code t
    ∷ required (is_natural 0 most_scale) field.Scale t
    ∷ []

abbrev pub asset_fault : Members → Option ConfigFault
asset_fault t = first_of (asset_checks t)

abbrev pub price_checks : Members → List (Option ConfigFault)
price_checks t =
    required is_asset field.From t
    ∷ required is_asset field.To t
    ∷ required (is_natural 0 most_term) field.P t
    ∷ required (is_natural 0 most_term) field.Q t
    ∷ []

unfoldable pub price_fault : Members → Option ConfigFault
price_fault t = first_of (price_checks t)

-- the fields of all assets, then those of all prices, and then what is wrong among them
abbrev pub assets_checks : PlainArrays → List (Option ConfigFault)
assets_checks arrays =
    first_of (map asset_fault (tables arrays.assets))
    ∷ first_of (map price_fault (tables arrays.prices))
    ∷ option_map from_assets (fault_of (assets_of arrays) (prices_of arrays))
    ∷ []

unfoldable pub assets_fault : PlainArrays → Option ConfigFault
assets_fault arrays = first_of (assets_checks arrays)

abbrev pub fields_checks : Members → List (Option ConfigFault)
fields_checks t =
    required (is_text form.Name) field.Name t
    ∷ required is_asset field.Asset t
    ∷ required (is_text form.Token) field.Token t
    ∷ required (is_text form.Token) field.OutToken t
    ∷ required (is_text form.SocketAddress) field.Host t
    ∷ optional (is_text form.Path) field.OutPath t
    ∷ required is_integer field.Least t
    ∷ optional (is_natural 0 million) field.FeePpm t
    ∷ optional (is_natural 0 most_written) field.MaxPacket t
    ∷ optional (is_text form.SocketAddress) field.Engine t
    ∷ optional is_integer field.Threshold t
    ∷ optional is_integer field.SettleTo t
    ∷ optional (is_natural 1 most_written) field.SettleMax t
    ∷ optional (is_natural 0 longest_wait_ms) field.SettleAfterMs t
    ∷ []

unfoldable pub fields_fault : Members → Option ConfigFault
fields_fault t = first_of (fields_checks t)

-- the levels where all of them are given: least <= settle_to < threshold
abbrev pub are_ordered : ℤ → Option ℤ → Option ℤ → Bool
are_ordered least None None = true
are_ordered least None (Some settle_to) = false
are_ordered least (Some threshold) None = true
are_ordered least (Some threshold) (Some settle_to) = int_le least settle_to && int_lt settle_to threshold

-- a threshold goes with a level to settle to and with an engine, and a most amount and a wait with a threshold
abbrev pub levels_checks : PlainFields → List (Option ConfigFault)
levels_checks f =
    when (is_some f.threshold && is_none f.settle_to) (Missing field.SettleTo)
    ∷ when (is_some f.threshold && is_none f.engine) (Missing field.Engine)
    ∷ when (int_lt (pos 0) f.least) BadLevels
    ∷ when (not (are_ordered f.least f.threshold f.settle_to)) BadLevels
    ∷ when (is_some f.settle_max && is_none f.threshold) BadLevels
    ∷ when (is_some f.settle_after_ms && is_none f.threshold) (Missing field.Threshold)
    ∷ []

unfoldable pub levels_fault : PlainFields → Option ConfigFault
levels_fault f = first_of (levels_checks f)

-- the text is one of these
abbrev pub is_among : List ℕ → List (List ℕ) → Bool
is_among text texts = list_any (bytes_eq text) texts

-- a known asset, and a name and a token that no peer before has
abbrev pub peer_rules_checks : List PlainAsset → List (List ℕ) → List (List ℕ) → PlainFields → List (Option ConfigFault)
peer_rules_checks assets names tokens f =
    when (is_none (place_of assets f.asset)) NoSuchAsset
    ∷ when (is_among f.name names) DoublePeer
    ∷ when (is_among f.token tokens) DoubleToken
    ∷ levels_fault f
    ∷ []

unfoldable pub peer_rules_fault : List PlainAsset → List (List ℕ) → List (List ℕ) → PlainFields → Option ConfigFault
peer_rules_fault assets names tokens f = first_of (peer_rules_checks assets names tokens f)

-- a peer beside those before it
abbrev pub peer_checks : List PlainAsset → List PlainPeer → Members → List (Option ConfigFault)
peer_checks assets before t =
    fields_fault t
    ∷ peer_rules_fault assets (peer_names before) (peer_tokens before) (fields_of t)
    ∷ []

unfoldable pub peer_fault : List PlainAsset → List PlainPeer → Members → Option ConfigFault
peer_fault assets before t = first_of (peer_checks assets before t)

-- the name of a peer, and a prefix that no route before has
abbrev pub route_checks : List (List ℕ) → List Route → Members → List (Option ConfigFault)
route_checks names before t =
    required (is_text form.Prefix) field.Prefix t
    ∷ required (is_text form.Name) field.Peer t
    ∷ when (is_none (place_named names (text_of field.Peer t))) (BadValue field.Peer)
    ∷ when (is_among (text_of field.Prefix t) (prefixes before)) DoubleRoute
    ∷ []

unfoldable pub route_fault : List (List ℕ) → List Route → Members → Option ConfigFault
route_fault names before t = first_of (route_checks names before t)

abbrev pub peers_fault : PlainArrays → Option ConfigFault
peers_fault arrays = first_beside (peer_fault (assets_of arrays)) (peer_of (assets_of arrays)) [] (tables arrays.peers)

abbrev pub routes_fault : PlainArrays → Option ConfigFault
routes_fault arrays = first_beside (route_fault (peer_names (peers_of arrays))) (route_of (peer_names (peers_of arrays))) [] (tables arrays.routes)

-- all that is looked at, in its order
abbrev pub all_checks : Members → List (Option ConfigFault)
all_checks t =
    settings_fault t
    ∷ arrays_fault t
    ∷ assets_fault (arrays_of t)
    ∷ peers_fault (arrays_of t)
    ∷ routes_fault (arrays_of t)
    ∷ []

-- the first fault of a table, or none
unfoldable pub first_fault : Members → Option ConfigFault
first_fault t = first_of (all_checks t)

-- the octets are text, and this is the table that TOML reads from them
abbrev pub IsToml : List ℕ → Members → Type 0
IsToml octets t = IsUtf8 octets × (parse_document octets ≡ Some t)
