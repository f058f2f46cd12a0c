-- With whom a packet was, and why an entry was booked.
use Rattle.std.specs.Prelude.{ℕ, List, Option, Some, None, option_map, option_and_then, slice_get, if◌then◌else◌, ◌==◌}
use Rattle.ilp_accounts.specs.Configuration.{Configuration, peer_at}
use Rattle.ilp_journal.specs.declared.credit_kind.CreditKind.{CreditKind}
use Rattle.ilp_journal.specs.declared.credit_kind.CreditKind.TheVariants.{Settled, Raised, Lowered}
use Rattle.ilp_journal.specs.declared.entry.Cause.{Cause}
use Rattle.ilp_journal.specs.declared.entry.Entry.{Entry}
use Rattle.ilp_journal.specs.declared.entry.Hold.{Hold}
use Rattle.ilp_journal.specs.declared.entry.What.{What}
use Rattle.ilp_journal.specs.declared.entry.What.TheVariants as what
use Rattle.ilp_journal.specs.Journal.{Entries, hold_at}
use Rattle.ilp_statement_text.specs.declared.row.About.{About}
use Rattle.ilp_statement_text.specs.declared.row.About.TheVariants as about
use Rattle.ilp_statement_text.specs.declared.row.Why.{Why}
use Rattle.ilp_statement_text.specs.declared.row.Why.TheVariants as why

-- ---- the other peer

-- the name of the peer at the other side of a packet
abbrev pub other_name : Configuration → ℕ → Hold → List ℕ
other_name C p h = (peer_at C (if h.from == p then h.to else h.from)).name

-- that of the packet that an entry is of
abbrev pub with_of : Configuration → Entries → ℕ → What → Option (List ℕ)
with_of C j p (what.Hold h) = Some (other_name C p h)
with_of C j p (what.Fulfilled hold preimage) = option_map (other_name C p) (hold_at j hold)
with_of C j p (what.Released hold cause) = option_map (other_name C p) (hold_at j hold)
with_of C j p (what.Credited c) = None
with_of C j p (what.Asked a) = None
with_of C j p (what.Confirmed ask) = None
with_of C j p (what.Undone ask) = None
with_of C j p (what.Opened peer balance) = None
with_of C j p (what.Known c) = None
with_of C j p (what.Pending peer amount key) = None

-- that of the entry of a number
abbrev pub with_at : Configuration → Entries → ℕ → ℕ → Option (List ℕ)
with_at C j p n = option_and_then (λ (e : Entry). with_of C j p e.what) (slice_get j n)

-- what a row says of that
abbrev pub with_in : About → Option (List ℕ)
with_in (about.Balance balance) = None
with_in (about.Packet other amount condition) = Some other.now
with_in (about.Settlement amount key) = None
with_in (about.Correction change key) = None

-- ---- why

-- for which cause an entry gives a packet's money back
abbrev pub cause_of : What → Option Cause
cause_of (what.Released hold cause) = Some cause
cause_of _ = None

-- for which reason a balance is corrected
abbrev pub reason_by : CreditKind → Option (List ℕ)
reason_by Settled = None
reason_by (Raised reason) = Some reason
reason_by (Lowered reason) = Some reason

-- for which reason an entry corrects it
abbrev pub reason_of : What → Option (List ℕ)
reason_of (what.Credited c) = reason_by c.kind
reason_of _ = None

-- those of the entry of a number
abbrev pub cause_at : Entries → ℕ → Option Cause
cause_at j n = option_and_then (λ (e : Entry). cause_of e.what) (slice_get j n)

abbrev pub reason_at : Entries → ℕ → Option (List ℕ)
reason_at j n = option_and_then (λ (e : Entry). reason_of e.what) (slice_get j n)

-- what a row says of that
abbrev pub cause_in : Option Why → Option Cause
cause_in (Some (why.Cause cause)) = Some cause
cause_in (Some (why.Reason octets)) = None
cause_in None = None

abbrev pub reason_in : Option Why → Option (List ℕ)
reason_in (Some (why.Cause cause)) = None
reason_in (Some (why.Reason octets)) = Some octets.now
reason_in None = None
