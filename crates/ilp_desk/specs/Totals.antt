-- What was fulfilled from a place of a journal on, and what records tell of it. An asset's amounts in are those of the holds whose
-- senders pay in it, and its amounts out those of the holds whose receivers are paid in it.
use Rattle.std.specs.Prelude.{ℕ, List, drop, sum_by, if◌then◌else◌}
use Rattle.ilp_journal.specs.declared.entry.Entry.{Entry}
use Rattle.ilp_journal.specs.declared.entry.Hold.{Hold}
use Rattle.ilp_journal.specs.Journal.{Entries, fulfilled}
use Rattle.ilp_journal.specs.TrialBalance.{has_asset, amount_in, amount_out, of_named}
use Rattle.ilp_desk.specs.declared.record.Record.{Record}
use Rattle.ilp_desk.specs.declared.record.Recorded.{Recorded}
use Rattle.ilp_desk.specs.declared.record.Recorded.TheVariants as recorded
use Rattle.ilp_desk.specs.declared.record.AnsweredHold.{AnsweredHold}
use Rattle.ilp_desk.specs.declared.record.HoldEnd.{HoldEnd}
use Rattle.ilp_desk.specs.declared.record.HoldEnd.TheVariants.{Fulfilled, Released}

-- ---- of a journal

-- the sum of f over the holds that the entries from the place base on fulfill
abbrev pub sum_of_fulfilled : (Hold → ℕ) → ℕ → Entries → ℕ
sum_of_fulfilled f base j = sum_by (λ (e : Entry). of_named j f (fulfilled e.what)) (drop base j)

-- the amounts in of these holds
abbrev pub taken_since : List ℕ → ℕ → Entries → ℕ → ℕ
taken_since assets base j x = sum_of_fulfilled (amount_in assets x) base j

-- their amounts out
abbrev pub sold_since : List ℕ → ℕ → Entries → ℕ → ℕ
sold_since assets base j x = sum_of_fulfilled (amount_out assets x) base j

-- ---- of records

-- the number, if the hold was fulfilled; else 0
abbrev pub if_fulfilled : HoldEnd → ℕ → ℕ
if_fulfilled Fulfilled n = n
if_fulfilled (Released cause) n = 0

-- f of the hold that a record tells of, if it was fulfilled; else 0
abbrev pub of_packet : (AnsweredHold → ℕ) → Recorded → ℕ
of_packet f (recorded.Answered h) = if_fulfilled h.ended (f h)
of_packet f (recorded.Credited peer amount lowers) = 0
of_packet f (recorded.Closed ask peer amount verdict) = 0

-- the sum of f over the fulfilled holds of these records
abbrev pub sum_of_packets : (AnsweredHold → ℕ) → List Record → ℕ
sum_of_packets f rs = sum_by (λ (r : Record). of_packet f r.what) rs

-- how many packets were fulfilled
abbrev pub packets : List Record → ℕ
packets rs = sum_of_packets (λ _. 1) rs

-- their amounts in
abbrev pub packets_in : List ℕ → List Record → ℕ → ℕ
packets_in assets rs x = sum_of_packets (λ h. if has_asset assets x h.from then h.amount else 0) rs

-- their amounts out
abbrev pub packets_out : List ℕ → List Record → ℕ → ℕ
packets_out assets rs x = sum_of_packets (λ h. if has_asset assets x h.to then h.out else 0) rs
