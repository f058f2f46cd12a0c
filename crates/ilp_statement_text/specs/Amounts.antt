-- What an entry is about, in units of the asset of the peer whose it is.
use Rattle.std.specs.Prelude.{ℕ, ℤ, pos, ◌-ℤ◌, Bool, true, false, Option, Some, None, option_map, option_and_then, slice_get, if◌then◌else◌, ◌==◌}
use Rattle.ilp_journal.specs.declared.credit_kind.CreditKind.{CreditKind}
use Rattle.ilp_journal.specs.declared.credit_kind.CreditKind.TheVariants.{Settled, Raised, Lowered}
use Rattle.ilp_journal.specs.declared.entry.Ask.{Ask}
use Rattle.ilp_journal.specs.declared.entry.Entry.{Entry}
use Rattle.ilp_journal.specs.declared.entry.Hold.{Hold}
use Rattle.ilp_journal.specs.declared.entry.What.{What}
use Rattle.ilp_journal.specs.declared.entry.What.TheVariants as what
use Rattle.ilp_journal.specs.Journal.{Entries, ask_at, hold_at}
use Rattle.ilp_statement_text.specs.declared.row.About.{About}
use Rattle.ilp_statement_text.specs.declared.row.About.TheVariants as about

-- the amount of a packet: what its sender pays, or what the other side gets
abbrev pub side_amount : ℕ → Hold → ℤ
side_amount p h = pos (if h.from == p then h.amount else h.out)

-- by how much a settlement or a correction raises the balance, which lies below 0 where it lowers it
abbrev pub change_by : CreditKind → ℕ → ℤ
change_by Settled amount = pos amount
change_by (Raised reason) amount = pos amount
change_by (Lowered reason) amount = pos 0 -ℤ pos amount

-- what an entry of the peer's is about
abbrev pub amount_of : Entries → ℕ → What → Option ℤ
amount_of j p (what.Hold h) = Some (side_amount p h)
amount_of j p (what.Fulfilled hold preimage) = option_map (side_amount p) (hold_at j hold)
amount_of j p (what.Released hold cause) = option_map (side_amount p) (hold_at j hold)
amount_of j p (what.Credited c) = Some (change_by c.kind c.credited)
amount_of j p (what.Asked a) = Some (pos a.amount)
amount_of j p (what.Confirmed ask) = option_map (λ (a : Ask). pos a.amount) (ask_at j ask)
amount_of j p (what.Undone ask) = option_map (λ (a : Ask). pos a.amount) (ask_at j ask)
amount_of j p (what.Opened peer balance) = Some balance
amount_of j p (what.Known c) = None
amount_of j p (what.Pending peer amount key) = None

-- that of the entry of a number
abbrev pub amount_at : Entries → ℕ → ℕ → Option ℤ
amount_at j p n = option_and_then (λ (e : Entry). amount_of j p e.what) (slice_get j n)

-- what a row says of that
abbrev pub amount_in : About → ℤ
amount_in (about.Balance balance) = balance
amount_in (about.Packet other amount condition) = pos amount
amount_in (about.Settlement amount key) = pos amount
amount_in (about.Correction change key) = change

-- ---- whether it is a correction

-- whether a credit corrects the balance, which a settlement doesn't
abbrev pub corrects_by : CreditKind → Bool
corrects_by Settled = false
corrects_by (Raised reason) = true
corrects_by (Lowered reason) = true

-- whether an entry corrects it
abbrev pub corrects : What → Bool
corrects (what.Credited c) = corrects_by c.kind
corrects _ = false

-- whether that of a number does
abbrev pub corrects_at : Entries → ℕ → Option Bool
corrects_at j n = option_map (λ (e : Entry). corrects e.what) (slice_get j n)

-- what a row says of that
abbrev pub is_correction : About → Bool
is_correction (about.Balance balance) = false
is_correction (about.Packet other amount condition) = false
is_correction (about.Settlement amount key) = false
is_correction (about.Correction change key) = true
