-- What an entry is known by, and whether that is looked for.
use Rattle.std.specs.Borrow.{Bor}
use Rattle.std.specs.Prelude.{ℕ, List, length, map, take, Bool, false, ◌&&◌, ◌||◌, Option, Some, None, is_none, is_some, option_map, option_and_then, slice_get, bytes_eq}
use Rattle.std.specs.Char.{to_ascii_lowercase}
use Rattle.hex.specs.Hex.{encode_lower}
use Rattle.ilp_accounts.specs.Configuration.{Configuration}
use Rattle.ilp_journal.specs.declared.entry.Ask.{Ask}
use Rattle.ilp_journal.specs.declared.entry.Entry.{Entry}
use Rattle.ilp_journal.specs.declared.entry.Hold.{Hold}
use Rattle.ilp_journal.specs.declared.entry.What.{What}
use Rattle.ilp_journal.specs.declared.entry.What.TheVariants as what
use Rattle.ilp_journal.specs.Journal.{Entries, ask_at, hold_at}
use Rattle.ilp_rules.specs.Book.{PlainBook}
use Rattle.ilp_rules.specs.SettlementKeys.{settlement_key_at}
use Rattle.ilp_statement.specs.Statement.{kind_at}
use Rattle.ilp_statement_text.specs.Keys.{octets_of}
use Rattle.ilp_statement_text.specs.declared.row.About.{About}
use Rattle.ilp_statement_text.specs.declared.sought.Sought.{Sought}
use Rattle.ilp_statement_text.specs.declared.row.About.TheVariants as about

-- ---- what an entry is known by

-- the condition of the packet that it is of
abbrev pub condition_of : Entries → What → Option (List ℕ)
condition_of j (what.Hold h) = Some h.condition
condition_of j (what.Fulfilled hold preimage) = option_map (λ (h : Hold). h.condition) (hold_at j hold)
condition_of j (what.Released hold cause) = option_map (λ (h : Hold). h.condition) (hold_at j hold)
condition_of j (what.Credited c) = None
condition_of j (what.Asked a) = None
condition_of j (what.Confirmed ask) = None
condition_of j (what.Undone ask) = None
condition_of j (what.Opened peer balance) = None
condition_of j (what.Known c) = None
condition_of j (what.Pending peer amount key) = None

-- the key of the settlement or the correction that the entry n is of
abbrev pub key_of : Configuration → ℕ → Entries → ℕ → What → Option (List ℕ)
key_of C period j n (what.Hold h) = None
key_of C period j n (what.Fulfilled hold preimage) = None
key_of C period j n (what.Released hold cause) = None
key_of C period j n (what.Credited c) = Some c.key
key_of C period j n (what.Asked a) = Some (settlement_key_at C period j n)
key_of C period j n (what.Confirmed ask) = option_map (λ (a : Ask). settlement_key_at C period j ask) (ask_at j ask)
key_of C period j n (what.Undone ask) = option_map (λ (a : Ask). settlement_key_at C period j ask) (ask_at j ask)
key_of C period j n (what.Opened peer balance) = None
key_of C period j n (what.Known c) = None
key_of C period j n (what.Pending peer amount key) = None

-- those of the entry of a number
abbrev pub condition_at : Entries → ℕ → Option (List ℕ)
condition_at j n = option_and_then (λ (e : Entry). condition_of j e.what) (slice_get j n)

abbrev pub key_at : Configuration → ℕ → Entries → ℕ → Option (List ℕ)
key_at C period j n = option_and_then (λ (e : Entry). key_of C period j n e.what) (slice_get j n)

-- ---- what a row says of that

abbrev pub condition_in : About → Option (List ℕ)
condition_in (about.Balance balance) = None
condition_in (about.Packet other amount condition) = Some condition
condition_in (about.Settlement amount key) = None
condition_in (about.Correction change key) = None

abbrev pub key_in : About → Option (List ℕ)
key_in (about.Balance balance) = None
key_in (about.Packet other amount condition) = None
key_in (about.Settlement amount key) = Some (octets_of key)
key_in (about.Correction change key) = Some (octets_of key)

-- ---- what is looked for

-- the first so many hexadecimal digits of octets are these, whatever their case
abbrev pub begins_with : List ℕ → List ℕ → Bool
begins_with octets digits = bytes_eq (map to_ascii_lowercase (take (length digits) (encode_lower octets))) (map to_ascii_lowercase digits)

-- a packet is looked for whose condition begins with these digits
abbrev pub is_packet : Option (Bor (List ℕ)) → Option (List ℕ) → Bool
is_packet (Some digits) (Some condition) = begins_with condition digits.now
is_packet (Some digits) None = false
is_packet None condition = false

-- a settlement or a correction is looked for under this key
abbrev pub is_under_key : Option (Bor (List ℕ)) → Option (List ℕ) → Bool
is_under_key (Some octets) (Some key) = bytes_eq octets.now key
is_under_key (Some octets) None = false
is_under_key None key = false

-- what is known by this condition or this key is looked for: all is where nothing is said
abbrev pub is_sought : Sought → Option (List ℕ) → Option (List ℕ) → Bool
is_sought s condition key = (is_none s.packet && is_none s.key) || (is_packet s.packet condition || is_under_key s.key key)

-- the entry of a number is listed in a peer's statement where it is the peer's and is looked for
abbrev pub is_listed : PlainBook → ℕ → Sought → ℕ → Bool
is_listed book p s n = is_some (kind_at book.entries p n) && is_sought s (condition_at book.entries n) (key_at book.config book.period book.entries n)
