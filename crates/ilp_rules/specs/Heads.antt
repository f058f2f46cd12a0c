-- What stands at the head of a journal: what was brought forward from the period before.
use Rattle.std.specs.Prelude.{◌≡◌, ℕ, ◌<◌, ◌≤◌, ◌^◌, All, Bool, false, IsTrue, IsNone, List, length, Option, option_map, unwrap_or, if◌then◌else◌, ◌==◌, ◌&&◌, nat_le, ◌++◌, codes, ⊤}
use Rattle.std.specs.List.{list_all}
use Rattle.std.specs.Str.{bytes_eq}
use Rattle.std.specs.Fmt.{decimal}
use Rattle.ilp_accounts.specs.Configuration.{Configuration}
use Rattle.ilp_journal.specs.declared.entry.Entry.{Entry}
use Rattle.ilp_journal.specs.declared.entry.What.{What}
use Rattle.ilp_journal.specs.declared.entry.What.TheVariants as what
use Rattle.ilp_order.specs.Places.{first_from}
use Rattle.ilp_journal.specs.Journal.{Entries}
use Rattle.ilp_journal.specs.Keys.{IsKey}
use Rattle.ilp_journal.specs.BroughtForward.{is_brought_forward, earlier_key, KeepsHeadRule}

-- how many settlements to a peer may be open at once
abbrev pub most_open_asks : ℕ
most_open_asks = 4

-- an entry that a period books itself
abbrev pub IsBooked : Entry → Type 0
IsBooked e = ¬ (IsTrue (is_brought_forward e.what))

-- all that stands there was brought forward
abbrev pub IsHead : Entries → Type 0
IsHead j = All (λ (e : Entry). IsTrue (is_brought_forward e.what)) j

-- ---- keys of settlements

-- what follows the run in the keys of a period's own settlements: a hyphen in the first, its number too in one above 0
abbrev pub period_mark : ℕ → List ℕ
period_mark period = if period == 0 then codes "-" else codes "." ++ (decimal period ++ codes "-")

-- what the keys of a period's own settlements begin with: RUN- in the first, RUN.P- in the period P above 0. A run has no full
-- stop, so no two periods have keys that begin alike.
abbrev pub key_front : Configuration → ℕ → List ℕ
key_front C period = C.settings.run ++ period_mark period

-- under this key the settlement of this number is asked for
abbrev pub settlement_key_of : Configuration → ℕ → ℕ → List ℕ
settlement_key_of C period number = key_front C period ++ decimal number

-- octets begin with others
abbrev pub StartsWith : List ℕ → List ℕ → Type 0
StartsWith octets front = (after : List ℕ) × (octets ≡ front ++ after)

-- a settlement of the period could have the key
abbrev pub IsOfPeriod : Configuration → ℕ → List ℕ → Type 0
IsOfPeriod C period key = StartsWith key (key_front C period)

-- a settlement of the period, or of a later one, could have the key
abbrev pub IsOfPeriodFrom : Configuration → ℕ → List ℕ → Type 0
IsOfPeriodFrom C period key = (later : ℕ) × (period ≤ later) × (later < 2 ^ 32) × IsOfPeriod C later key

-- whether an entry brings a settlement forward under the key
abbrev pub has_earlier_key : List ℕ → What → Bool
has_earlier_key key w = unwrap_or (option_map (λ (other : List ℕ). bytes_eq other key) (earlier_key w)) false

-- the first entry that brings a settlement forward under the key
abbrev pub pending_at : Entries → List ℕ → Option ℕ
pending_at j key = first_from (λ _ (e : Entry). has_earlier_key key e.what) 0 j

-- visible ASCII, which a key needs to go out as the value of a field (RFC 9110, section 5.5)
abbrev pub is_key_octet : ℕ → Bool
is_key_octet octet = nat_le 33 octet && nat_le octet 126

-- A settlement is brought forward under a key that can go out, and that no other one has or gets: none that is brought forward
-- too, and none of this period or a later one.
pub record HasOwnKey (C : Configuration) (period : ℕ) (before : Entries) (key : List ℕ) : Type 0 where
  pub named : IsKey key
  pub visible : IsTrue (list_all is_key_octet key)
  pub single : IsNone (pending_at before key)
  pub earlier : ¬ (IsOfPeriodFrom C period key)

-- the keys of credits and of settlements that are brought forward are keys
abbrev pub KeepsKeyRule : Configuration → ℕ → Entries → What → Type 0
KeepsKeyRule C period before (what.Known c) = IsKey c.key
KeepsKeyRule C period before (what.Pending peer amount key) = HasOwnKey C period before key
KeepsKeyRule C period before _ = ⊤

-- ---- the rule

-- What is brought forward begins the journal of a period above 0: it stands before all other kinds, and is among what the book
-- began with, the entries below the base. It keeps the rules of heads and of keys.
pub record StandsInHead (C : Configuration) (period base : ℕ) (before : Entries) (w : What) : Type 0 where
  pub later : 0 < period
  pub front : IsHead before
  pub begun : length before < base
  pub rule : KeepsHeadRule (length C.peers) most_open_asks before w
  pub keys : KeepsKeyRule C period before w
