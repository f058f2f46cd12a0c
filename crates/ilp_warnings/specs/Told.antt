-- What holds where a warning is told of a configuration, and of the table that it was read from.
use Rattle.std.specs.Prelude.{◌≡◌, ◌≢◌, ℕ, ◌<◌, ◌≤◌, Bool, ◌&&◌, ◌||◌, ◌==◌, nat_le, nat_eq, if◌then◌else◌, List, [], ◌∷◌, length, slice_get, All, Contains, Option, Some, None, option_map, option_and_then, IfSome, IsSomeAnd, string_bytes}
use Rattle.std.specs.List.{list_all}
use Rattle.std.specs.Str.{chars}
use Rattle.strsim.specs.Edits.{levenshtein_row}
use Rattle.toml.specs.Data.{Members, no_members, member, as_table}
use Rattle.toml.specs.View.{view, table_view}
use Rattle.toml.specs.declared.value.Value.{Value}
use denote.Ref.{Bor}
use Rattle.ilp_fields.specs.declared.fault.Field.{Field}
use Rattle.ilp_fields.specs.declared.fault.Field.TheVariants as field
use Rattle.ilp_fields.specs.Forms.{is_digit, is_capital, is_small}
use Rattle.ilp_fields.specs.Fields.{elements_of}
use Rattle.ilp_fields.specs.Keys as keys
use Rattle.ilp_accounts.specs.Configuration.{Configuration, peer_at}
use Rattle.ilp_warnings.specs.declared.warning.ConfigTable.{ConfigTable}
use Rattle.ilp_warnings.specs.declared.warning.ConfigTable.TheVariants.{Top, Asset, Price, Peer, Route}
use Rattle.ilp_warnings.specs.declared.warning.Warning.{Warning}
use Rattle.ilp_warnings.specs.declared.warning.Warning.TheVariants.{Unknown, Displaced, NoAddress, OpenEngines, SharedListen, ShortHolds, NoRoutes, ShortToken, ExampleToken, SameTokens, SharedHost, OnePacket, TooLargeOut, Unreached, Unpriced}
use Rattle.ilp_warnings.specs.declared.examined.Examined.{Examined}
use Rattle.ilp_warnings.specs.Meaning.{IsSocketAddress, IsOpen, IsShared, IsShort, IsExample, HaveSameHost, ReachesAtOnce, IsTooLargeFor, IsUnreached, IsUnpriced}

-- ---- fields that are not known

-- the fields of the top that are no arrays
abbrev pub top_fields : List Field
top_fields = field.Address ∷ field.Run ∷ field.Listen ∷ field.EngineListen ∷ field.Path ∷ field.Workers ∷ field.Journal ∷ field.WindowMs ∷ field.MaxHoldMs ∷ field.SweepMs ∷ field.SettleMs ∷ field.Sync ∷ field.InFlight ∷ field.NewPeriodAt ∷ []

-- the fields and arrays that are known in a table
abbrev pub known_in : ConfigTable → List Field
known_in Top = field.Address ∷ field.Run ∷ field.Listen ∷ field.EngineListen ∷ field.Path ∷ field.Workers ∷ field.Journal ∷ field.WindowMs ∷ field.MaxHoldMs ∷ field.SweepMs ∷ field.SettleMs ∷ field.Sync ∷ field.InFlight ∷ field.NewPeriodAt ∷ field.Asset ∷ field.Price ∷ field.Peer ∷ field.Route ∷ []
known_in (Asset n) = field.Code ∷ field.Scale ∷ []
known_in (Price n) = field.From ∷ field.To ∷ field.P ∷ field.Q ∷ []
known_in (Peer n) = field.Name ∷ field.Asset ∷ field.Token ∷ field.OutToken ∷ field.Host ∷ field.OutPath ∷ field.Least ∷ field.FeePpm ∷ field.MaxPacket ∷ field.Engine ∷ field.Threshold ∷ field.SettleTo ∷ field.SettleMax ∷ field.SettleAfterMs ∷ []
known_in (Route n) = field.Prefix ∷ field.Peer ∷ []

-- none of these fields has the key
abbrev pub IsNoneOf : List Field → List ℕ → Type 0
IsNoneOf fields key = All (λ f. keys.key f ≢ key) fields

-- the table of this number of an array
abbrev pub element : Field → Members → ℕ → Option Members
element array t n = option_and_then as_table (slice_get (elements_of array t) n)

-- what stands in a table of a configuration
abbrev pub table_at : Members → ConfigTable → Option Members
table_at t Top = Some t
table_at t (Asset n) = element field.Asset t n
table_at t (Price n) = element field.Price t n
table_at t (Peer n) = element field.Peer t n
table_at t (Route n) = element field.Route t n

-- the keys of a table, in order
abbrev pub keys_of : Members → List (List ℕ)
keys_of no_members = []
keys_of (member key value rest) = key ∷ keys_of rest

-- the table has a field of this key, which is not known there
pub record IsUnknown (t : Members) (within : ConfigTable) (key : List ℕ) : Type 0 where
  pub members : Members
  pub there : table_at t within ≡ Some members
  pub has : Contains (keys_of members) key
  pub unknown : IsNoneOf (known_in within) key

-- A-Z a-z 0-9 _ -
abbrev pub is_plain_octet : ℕ → Bool
is_plain_octet octet = (((is_capital octet || is_small octet) || is_digit octet) || octet == 95) || octet == 45

-- what can't spoil a line
abbrev pub is_plain : List ℕ → Bool
is_plain key = nat_le (length key) 64 && list_all is_plain_octet key

-- a key as it is told
abbrev pub told_key : List ℕ → Option (List ℕ)
told_key key = if is_plain key then Some key else None

-- A few edits lead from the key to that of the field.
abbrev pub IsNear : List ℕ → Field → Type 0
IsNear key f = levenshtein_row nat_eq (chars key) (chars (keys.key f)) (length (chars (keys.key f))) ≤ 2

-- a field that is known in a table, and near to a key
abbrev pub IsMeant : ConfigTable → List ℕ → Field → Type 0
IsMeant within key f = Contains (known_in within) f × IsNear key f

-- ---- all warnings

-- the text of a field that is to be IP:PORT
abbrev pub address_at : Configuration → ConfigTable → Field → Option (List ℕ)
address_at C Top field.Listen = Some C.settings.listen
address_at C Top field.EngineListen = Some C.settings.engine_listen
address_at C (Peer n) field.Host = Some (peer_at C n).host
address_at C (Peer n) field.Engine = (peer_at C n).engine
address_at C _ _ = None

-- the text of a field that is a token
abbrev pub token_at : Configuration → ℕ → Field → Option (List ℕ)
token_at C peer field.Token = Some (peer_at C peer).token
token_at C peer field.OutToken = Some (peer_at C peer).out_token
token_at C peer _ = None

-- A warning is so: of a configuration, the table that it was read from, and the peers to which its routes lead.
abbrev pub Warrants : Members → Configuration → List ℕ → Warning → Type 0
Warrants t C targets (Unknown within shown meant) = (key : List ℕ) × (IsUnknown t within key × (option_map string_bytes shown ≡ told_key key) × IfSome meant (IsMeant within key))
Warrants t C targets (Displaced within f) = IsUnknown t within (keys.key f) × Contains top_fields f
Warrants t C targets (NoAddress within f) = IsSomeAnd (address_at C within f) (λ text. ¬ IsSocketAddress text)
Warrants t C targets OpenEngines = IsOpen C.settings.engine_listen
Warrants t C targets SharedListen = IsShared C.settings.listen C.settings.engine_listen
Warrants t C targets ShortHolds = C.settings.max_hold_ms ≤ C.settings.window_ms
Warrants t C targets NoRoutes = C.routes ≡ []
Warrants t C targets (ShortToken peer f) = IsSomeAnd (token_at C peer f) IsShort
Warrants t C targets (ExampleToken peer f) = IsSomeAnd (token_at C peer f) IsExample
Warrants t C targets (SameTokens peer) = (peer_at C peer).token ≡ (peer_at C peer).out_token
Warrants t C targets (SharedHost peer other) = (other < peer) × HaveSameHost C peer other
Warrants t C targets (OnePacket peer sender) = (sender ≢ peer) × ReachesAtOnce C sender peer
Warrants t C targets (TooLargeOut peer other) = (other ≢ peer) × IsTooLargeFor C peer other
Warrants t C targets (Unreached peer) = IsUnreached targets peer
Warrants t C targets (Unpriced route peer) = (slice_get targets route ≡ Some peer) × IsUnpriced C peer

-- what is told is so
abbrev pub IsWarranted : Examined → Warning → Type 0
IsWarranted examined warning = Warrants (table_view examined.table.now) examined.config.now examined.targets.now warning

abbrev pub AreWarranted : Examined → List Warning → Type 0
AreWarranted examined told = All (IsWarranted examined) told

-- the value of a table, and none where it is not there
abbrev pub IsAt : Examined → ConfigTable → Option (Bor Value) → Type 0
IsAt examined within value = table_at (table_view examined.table.now) within ≡ option_and_then (λ v. as_table (view v.now)) value
