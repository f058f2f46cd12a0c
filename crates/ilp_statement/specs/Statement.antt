-- The statement of a peer's account: which entries of a journal are the peer's, and what each left of its balance.
use Rattle.std.specs.Prelude.{ℕ, ◌+◌, ◌*◌, ◌^◌, ℤ, pos, ◌+ℤ◌, ◌≤ℤ◌, List, length, map, take, drop, Option, Some, None, is_some, option_and_then, unwrap_or, int_le, if◌then◌else◌, ◌==◌, slice_get}
use Rattle.ilp_order.specs.Places.{first_from, places_from}
use Rattle.ilp_journal.specs.declared.entry.Entry.{Entry}
use Rattle.ilp_journal.specs.declared.entry.What.{What}
use Rattle.ilp_journal.specs.declared.entry.What.TheVariants as what
use Rattle.ilp_journal.specs.declared.entry.Hold.{Hold}
use Rattle.ilp_journal.specs.declared.credit_kind.CreditKind.{CreditKind}
use Rattle.ilp_journal.specs.declared.credit_kind.CreditKind.TheVariants as credit
use Rattle.ilp_journal.specs.declared.entry.Ask.{Ask}
use Rattle.ilp_journal.specs.Journal.{Entries, hold_at, ask_at}
use Rattle.ilp_journal.specs.Balance.{balance, rise_at, fall_at}
use Rattle.ilp_statement.specs.declared.kind.Kind.{Kind}
use Rattle.ilp_statement.specs.declared.kind.Kind.TheVariants.{Opened, Sent, Paid, Returned, Received, Refused, Credited, Corrected, Asked, Confirmed, Undone}
use Rattle.ilp_statement.specs.declared.line.Line.{Line}

-- ---- which entries are a peer's

-- by which side of a hold the peer stands: it sent the packet, or the packet went to it
abbrev pub side_of : ℕ → Hold → Kind → Kind → Option Kind
side_of p h sent went = if h.from == p then Some sent else if h.to == p then Some went else None

-- what an entry is to the peer whose it may be
abbrev pub owner_is : ℕ → ℕ → Kind → Option Kind
owner_is p owner kind = if owner == p then Some kind else None

-- whether it is a settlement or a correction
abbrev pub kind_by : CreditKind → Kind
kind_by credit.Settled = Credited
kind_by (credit.Raised reason) = Corrected
kind_by (credit.Lowered reason) = Corrected

-- What an entry is to the peer, where it is the peer's: it holds the peer's money, ends such a hold or one of a packet that went to it,
-- or is of its settlements, of a correction or of the balance that it began with.
abbrev pub kind_of : Entries → ℕ → What → Option Kind
kind_of j p (what.Hold h) = owner_is p h.from Sent
kind_of j p (what.Fulfilled hold preimage) = option_and_then (λ h. side_of p h Paid Received) (hold_at j hold)
kind_of j p (what.Released hold cause) = option_and_then (λ h. side_of p h Returned Refused) (hold_at j hold)
kind_of j p (what.Credited c) = owner_is p c.peer (kind_by c.kind)
kind_of j p (what.Asked a) = owner_is p a.peer Asked
kind_of j p (what.Confirmed ask) = option_and_then (λ (a : Ask). owner_is p a.peer Confirmed) (ask_at j ask)
kind_of j p (what.Undone ask) = option_and_then (λ (a : Ask). owner_is p a.peer Undone) (ask_at j ask)
kind_of j p (what.Opened peer balance) = owner_is p peer Opened
kind_of j p (what.Known c) = None
kind_of j p (what.Pending peer amount key) = None

-- what the entry of a number is to the peer
abbrev pub kind_at : Entries → ℕ → ℕ → Option Kind
kind_at j p n = option_and_then (λ (e : Entry). kind_of j p e.what) (slice_get j n)

-- ---- lines

-- the line of the entry n: by how much it raises and lowers the peer's balance, and the balance of all entries up to it
abbrev pub line_at : Entries → ℕ → ℕ → Line
line_at j p n = record { number = n; rise = rise_at j p n; fall = fall_at j p n; balance = balance (take (n + 1) j) p }

-- no further from 0 than so many amounts of 64 bits come to
abbrev pub IsOfAmounts : ℕ → ℤ → Type 0
IsOfAmounts n balance = (pos 0 ≤ℤ (balance +ℤ pos (n * 2 ^ 64))) × (balance ≤ℤ pos (n * 2 ^ 64))

-- the entries from the first number on, before the last one
abbrev pub between : Entries → ℕ → ℕ → Entries
between j first behind = drop first (take behind j)

-- the lines of those of them that are the peer's
abbrev pub lines_of : Entries → ℕ → ℕ → ℕ → List Line
lines_of j p first behind = map (line_at j p) (places_from (λ _ (e : Entry). is_some (kind_of j p e.what)) first (between j first behind))

-- ---- times

-- the number of the first entry that is not before a moment; that of the next one where there is none
abbrev pub number_from : Entries → ℤ → ℕ
number_from j moment = unwrap_or (first_from (λ _ (e : Entry). int_le moment e.moment) 0 j) (length j)
