-- Settlements from peers, and corrections of their balances: by how much they move these, and which one is kept under a key. One
-- of an earlier period is kept as one of this period is.
use Rattle.std.specs.Prelude.{ℕ, Bool, true, false, ◌&&◌, ◌==◌, List, Option, Some, None, slice_get, option_and_then, option_map, unwrap_or}
use Rattle.std.specs.Str.{bytes_eq}
use Rattle.ilp_journal.specs.declared.entry.Entry.{Entry}
use Rattle.ilp_journal.specs.declared.entry.What.{What}
use Rattle.ilp_journal.specs.declared.entry.What.TheVariants as what
use Rattle.ilp_journal.specs.declared.entry.Credited.{Credited}
use Rattle.ilp_journal.specs.declared.credit_kind.CreditKind.{CreditKind}
use Rattle.ilp_journal.specs.declared.credit_kind.CreditKind.TheVariants.{Settled, Raised, Lowered}
use Rattle.ilp_order.specs.Places.{first_from}
use Rattle.ilp_journal.specs.Journal.{Entries}

-- by how much an amount of a kind raises a balance
abbrev pub raising : CreditKind → ℕ → ℕ
raising Settled amount = amount
raising (Raised reason) amount = amount
raising (Lowered reason) amount = 0

-- by how much it lowers one
abbrev pub lowering : CreditKind → ℕ → ℕ
lowering Settled amount = 0
lowering (Raised reason) amount = 0
lowering (Lowered reason) amount = amount

-- whether it lowers one
abbrev pub lowers : CreditKind → Bool
lowers Settled = false
lowers (Raised reason) = false
lowers (Lowered reason) = true

-- a settlement both, or a correction in one direction, for one reason
abbrev pub same_kind : CreditKind → CreditKind → Bool
same_kind Settled Settled = true
same_kind (Raised reason) (Raised told) = bytes_eq reason told
same_kind (Lowered reason) (Lowered told) = bytes_eq reason told
same_kind _ _ = false

-- the credit or correction whose key an entry keeps
abbrev pub as_credit : What → Option Credited
as_credit (what.Credited c) = Some c
as_credit (what.Known c) = Some c
as_credit _ = None

-- the credit under a number
abbrev pub credit_at : Entries → ℕ → Option Credited
credit_at j n = option_and_then (λ (e : Entry). as_credit e.what) (slice_get j n)

-- whether an entry keeps the key of a credit of the peer
abbrev pub has_key : ℕ → List ℕ → What → Bool
has_key peer key w = unwrap_or (option_map (λ (c : Credited). (c.peer == peer) && bytes_eq c.key key) (as_credit w)) false

-- the number of the first credit of a peer under a key
abbrev pub kept_at : Entries → ℕ → List ℕ → Option ℕ
kept_at j peer key = first_from (λ _ (e : Entry). has_key peer key e.what) 0 j

-- the first credit of a peer under a key
abbrev pub kept_credit : Entries → ℕ → List ℕ → Option Credited
kept_credit j peer key = option_and_then (credit_at j) (kept_at j peer key)
