-- What every configuration that was read has.
use Rattle.ilp_assets.specs.Quote.{million, most}
use Rattle.std.specs.Prelude.{◌≡◌, ◌≢◌, ◌⊎◌, ℕ, ◌<◌, ◌≤◌, pos, ◌≤ℤ◌, ◌<ℤ◌, List, length, All, Contains, IsTrue, IsSome, IfSome, None}
use Rattle.std.specs.List.{AllPairs}
use Rattle.std.specs.Int.{abs_diff}
use Rattle.ilp_lookup.specs.Route.{Route, prefixes}
use Rattle.ilp_assets.specs.Assets.{PlainAsset, PlainPrice}
use Rattle.ilp_assets.specs.Faults.{fault_of, most_scale_gap}
use Rattle.ilp_fields.specs.declared.form.Form.{Form}
use Rattle.ilp_fields.specs.declared.form.Form.TheVariants as form
use Rattle.ilp_accounts.specs.declared.peer.Levels.{Levels}
use Rattle.ilp_fields.specs.Forms.{admits}
use Rattle.ilp_accounts.specs.Limits.{most_assets, most_prices, most_peers, most_routes, most_workers, most_in_flight, most_percent, least_journal, most_journal, longest_ms, longest_rest_ms, longest_wait_ms, most_scale, most_term, most_written}
use Rattle.ilp_accounts.specs.Configuration.{PlainSettings, PlainPeer, Configuration, peer_names, peer_tokens}

-- no two texts are equal
abbrev pub AreDistinct : List (List ℕ) → Type 0
AreDistinct texts = AllPairs (λ text later. text ≢ later) texts

abbrev pub HasForm : Form → List ℕ → Type 0
HasForm f text = IsTrue (admits f text)

-- the number lies between the two, both included
abbrev pub IsWithin : ℕ → ℕ → ℕ → Type 0
IsWithin least most n = (least ≤ n) × (n ≤ most)

pub record AreSettings (s : PlainSettings) : Type 0 where
  pub address : HasForm form.Address s.address
  pub run : HasForm form.Run s.run
  pub listen : HasForm form.SocketAddress s.listen
  pub engine_listen : HasForm form.SocketAddress s.engine_listen
  pub path : HasForm form.Path s.path
  pub workers : IsWithin 1 most_workers s.workers
  pub journal : IsWithin least_journal most_journal s.journal
  pub window_ms : IsWithin 0 longest_ms s.window_ms
  pub max_hold_ms : IsWithin 1 longest_ms s.max_hold_ms
  pub sweep_ms : IsWithin 1 longest_rest_ms s.sweep_ms
  pub settle_ms : IsWithin 1 longest_rest_ms s.settle_ms
  pub in_flight : IsWithin 1 most_in_flight s.in_flight
  pub new_period_at : IfSome s.new_period_at (IsWithin 1 most_percent)

pub record IsAsset (a : PlainAsset) : Type 0 where
  pub code : HasForm form.Code a.code
  pub scale : a.scale ≤ most_scale

-- a price of one of these assets in another one of them, whose scales are near each other
pub record IsPrice (assets : List PlainAsset) (price : PlainPrice) : Type 0 where
  pub from : Contains assets price.from
  pub to : Contains assets price.to
  pub other : price.from ≢ price.to
  pub p : IsWithin 1 most_term price.p
  pub q : IsWithin 1 most_term price.q
  pub near : abs_diff price.from.scale price.to.scale ≤ most_scale_gap

-- least <= settle_to < threshold
pub record AreOrdered (p : PlainPeer) (levels : Levels) : Type 0 where
  pub engine : IsSome p.engine
  pub least : p.least ≤ℤ levels.settle_to
  pub settle_to : levels.settle_to <ℤ levels.threshold

-- the greatest amount that a peer may send: one that was written, or, where none was, as much as a packet can carry
abbrev pub IsMaxPacket : ℕ → Type 0
IsMaxPacket amount = (amount ≤ most_written) ⊎ (amount ≡ most)

-- the greatest amount of a settlement: one that was written, or, where none was, as much as a packet can carry
abbrev pub IsMaxSettlement : ℕ → Type 0
IsMaxSettlement amount = IsWithin 1 most_written amount ⊎ (amount ≡ most)

-- a peer whose asset is one of so many
pub record IsPeer (assets : ℕ) (p : PlainPeer) : Type 0 where
  pub name : HasForm form.Name p.name
  pub asset : p.asset < assets
  pub token : HasForm form.Token p.token
  pub out_token : HasForm form.Token p.out_token
  pub host : HasForm form.SocketAddress p.host
  pub out_path : HasForm form.Path p.out_path
  pub least : p.least ≤ℤ pos 0
  pub fee_ppm : p.fee_ppm ≤ million
  pub max_packet : IsMaxPacket p.max_packet
  pub engine : IfSome p.engine (HasForm form.SocketAddress)
  pub levels : IfSome p.levels (AreOrdered p)
  pub settle_max : IfSome p.levels (λ levels. IsMaxSettlement levels.settle_max)
  pub settle_after_ms : p.settle_after_ms ≤ longest_wait_ms

-- a route to one of so many peers
pub record IsRouteTo (peers : ℕ) (r : Route) : Type 0 where
  pub prefix : HasForm form.Prefix r.prefix
  pub peer : r.peer < peers

pub record IsValid (c : Configuration) : Type 0 where
  pub settings : AreSettings c.settings
  pub asset_count : IsWithin 1 most_assets (length c.table.assets)
  pub assets : All IsAsset c.table.assets
  pub price_count : length c.table.prices ≤ most_prices
  pub prices : All (IsPrice c.table.assets) c.table.prices
  pub sound : fault_of c.table.assets c.table.prices ≡ None
  pub peer_count : IsWithin 1 most_peers (length c.peers)
  pub peers : All (IsPeer (length c.table.assets)) c.peers
  pub names : AreDistinct (peer_names c.peers)
  pub tokens : AreDistinct (peer_tokens c.peers)
  pub route_count : length c.routes ≤ most_routes
  pub routes : All (IsRouteTo (length c.peers)) c.routes
  pub prefixes : AreDistinct (prefixes c.routes)
