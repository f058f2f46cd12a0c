-- What is told wherever it is so.
use Rattle.std.specs.Prelude.{◌≡◌, ◌≢◌, ℕ, ◌<◌, ◌≤◌, List, [], length, slice_get, Contains, Some, IfSome, option_map, string_bytes}
use Rattle.ilp_fields.specs.declared.fault.Field.TheVariants as field
use Rattle.toml.specs.Data.{Members}
use Rattle.ilp_fields.specs.Keys as keys
use Rattle.ilp_accounts.specs.Limits.{most_routes}
use Rattle.ilp_accounts.specs.Configuration.{Configuration, peer_at}
use Rattle.ilp_warnings.specs.declared.warning.ConfigTable.{ConfigTable}
use Rattle.ilp_warnings.specs.declared.warning.ConfigTable.TheVariants.{Top, Asset, Price, Peer, Route}
use Rattle.ilp_warnings.specs.declared.warning.Warning.{Warning}
use Rattle.ilp_warnings.specs.declared.warning.Warning.TheVariants.{Unknown, Displaced, NoAddress, OpenEngines, SharedListen, ShortHolds, NoRoutes, ShortToken, ExampleToken, SameTokens, SharedHost, OnePacket, TooLargeOut, Unreached, Unpriced}
use Rattle.ilp_warnings.specs.Meaning.{IsSocketAddress, IsClosed, IsShared, IsShort, IsExample, HaveSameHost, ReachesAtOnce, IsTooLargeFor, IsUnreached, IsUnpriced}
use Rattle.ilp_warnings.specs.Told.{IsUnknown, told_key}

-- what was told stays told
abbrev pub KeepsAll : List Warning → List Warning → Type 0
KeepsAll old new = (w : Warning) → Contains old w → Contains new w

-- ---- fields that are not known

-- the warning is of the field of this key in this table, and shows the key where that can't spoil a line
abbrev pub TellsOf : ConfigTable → List ℕ → Warning → Type 0
TellsOf within key (Unknown at shown meant) = (at ≡ within) × (option_map string_bytes shown ≡ told_key key)
TellsOf within key (Displaced at f) = (at ≡ within) × (keys.key f ≡ key)
TellsOf within key _ = ⊥

-- a field was told
abbrev pub IsFieldTold : ConfigTable → List ℕ → List Warning → Type 0
IsFieldTold within key told = (w : Warning) × (Contains told w × TellsOf within key w)

-- of the fields of a table
abbrev pub IsTableTold : Members → ConfigTable → List Warning → Type 0
IsTableTold t within told = (key : List ℕ) → IsUnknown t within key → IsFieldTold within key told

-- of the tables of an array below a number
abbrev pub AreTablesTold : Members → (ℕ → ConfigTable) → ℕ → List Warning → Type 0
AreTablesTold t place count told = (n : ℕ) → n < count → IsTableTold t (place n) told

-- of all tables; no array of a configuration has more than 4,096
pub record AreFieldsTold (t : Members) (C : Configuration) (targets : List ℕ) (told : List Warning) : Type 0 where
  pub top : IsTableTold t Top told
  pub assets : AreTablesTold t Asset most_routes told
  pub prices : AreTablesTold t Price most_routes told
  pub peers : AreTablesTold t Peer (length C.peers) told
  pub routes : (n : ℕ) → n < length targets → n < most_routes → IsTableTold t (Route n) told

-- ---- all others

-- of the settings at the top
pub record AreTopTold (C : Configuration) (told : List Warning) : Type 0 where
  pub listen : ¬ IsSocketAddress C.settings.listen → Contains told (NoAddress Top field.Listen)
  pub engine_listen : ¬ IsSocketAddress C.settings.engine_listen → Contains told (NoAddress Top field.EngineListen)
  pub engines : ¬ IsClosed C.settings.engine_listen → Contains told OpenEngines
  pub shared : IsShared C.settings.listen C.settings.engine_listen → Contains told SharedListen
  pub holds : C.settings.max_hold_ms ≤ C.settings.window_ms → Contains told ShortHolds
  pub no_routes : C.routes ≡ [] → Contains told NoRoutes

-- of the tokens of a peer
pub record AreTokensTold (C : Configuration) (peer : ℕ) (told : List Warning) : Type 0 where
  pub short : IsShort (peer_at C peer).token → Contains told (ShortToken peer field.Token)
  pub short_out : IsShort (peer_at C peer).out_token → Contains told (ShortToken peer field.OutToken)
  pub example : IsExample (peer_at C peer).token → Contains told (ExampleToken peer field.Token)
  pub example_out : IsExample (peer_at C peer).out_token → Contains told (ExampleToken peer field.OutToken)
  pub same : (peer_at C peer).token ≡ (peer_at C peer).out_token → Contains told (SameTokens peer)

-- of the places where a peer and its engine are reached
pub record AreAddressesTold (C : Configuration) (peer : ℕ) (told : List Warning) : Type 0 where
  pub host : ¬ IsSocketAddress (peer_at C peer).host → Contains told (NoAddress (Peer peer) field.Host)
  pub engine : IfSome (peer_at C peer).engine (λ text. ¬ IsSocketAddress text → Contains told (NoAddress (Peer peer) field.Engine))

-- such a warning was told, of some other peer
abbrev pub Names : List Warning → (ℕ → Warning) → Type 0
Names told warning = (other : ℕ) × Contains told (warning other)

-- of a peer, where routes lead to these
pub record IsPeerTold (C : Configuration) (targets : List ℕ) (peer : ℕ) (told : List Warning) : Type 0 where
  pub tokens : AreTokensTold C peer told
  pub addresses : AreAddressesTold C peer told
  pub same_host : (other : ℕ) → other < peer → HaveSameHost C peer other → Names told (SharedHost peer)
  pub one_packet : (sender : ℕ) → sender < length C.peers → sender ≢ peer → ReachesAtOnce C sender peer → Names told (OnePacket peer)
  pub too_large : (other : ℕ) → other < length C.peers → other ≢ peer → IsTooLargeFor C peer other → Names told (TooLargeOut peer)
  pub unreached : IsUnreached targets peer → Contains told (Unreached peer)

-- of a route, where the routes lead to these peers
abbrev pub IsRouteTold : Configuration → List ℕ → ℕ → List Warning → Type 0
IsRouteTold C targets route told = (peer : ℕ) → slice_get targets route ≡ Some peer → IsUnpriced C peer → Contains told (Unpriced route peer)

-- of the routes below a number
abbrev pub AreRoutesTold : Configuration → List ℕ → ℕ → List Warning → Type 0
AreRoutesTold C targets count told = (route : ℕ) → route < count → IsRouteTold C targets route told

-- of the peers below a number
abbrev pub ArePeersTold : Configuration → List ℕ → ℕ → List Warning → Type 0
ArePeersTold C targets count told = (peer : ℕ) → peer < count → IsPeerTold C targets peer told

-- of a configuration
pub record IsComplete (t : Members) (C : Configuration) (targets : List ℕ) (told : List Warning) : Type 0 where
  pub fields : AreFieldsTold t C targets told
  pub top : AreTopTold C told
  pub peers : ArePeersTold C targets (length C.peers) told
  pub routes : AreRoutesTold C targets most_routes told
