-- The records of a journal: what the books say of what an actor booked.
use Rattle.std.specs.Prelude.{ℕ, ◌+◌, Bool, true, ◌==◌, List, [], ◌∷◌, ◌++◌, drop, Option, Some, None, option_map, option_and_then, option_to_list, slice_get, if◌then◌else◌}
use Rattle.ilp_journal.specs.declared.entry.Entry.{Entry}
use Rattle.ilp_journal.specs.declared.entry.Hold.{Hold}
use Rattle.ilp_journal.specs.declared.entry.Ask.{Ask}
use Rattle.ilp_journal.specs.declared.entry.What.{What}
use Rattle.ilp_journal.specs.declared.entry.What.TheVariants as what
use Rattle.ilp_journal.specs.declared.entry.Cause.{Cause}
use Rattle.ilp_journal.specs.declared.entry.Cause.TheVariants as cause
use Rattle.ilp_journal.specs.Journal.{Entries, hold_at, ask_at}
use Rattle.ilp_journal.specs.Credits.{lowers}
use Rattle.ilp_settlement.specs.declared.verdict.EngineVerdict.{EngineVerdict}
use Rattle.ilp_settlement.specs.declared.verdict.EngineVerdict.TheVariants.{Accepted, Refused}
use Rattle.ilp_desk.specs.declared.record.Record.{Record}
use Rattle.ilp_desk.specs.declared.record.Recorded.{Recorded}
use Rattle.ilp_desk.specs.declared.record.Recorded.TheVariants as recorded
use Rattle.ilp_desk.specs.declared.record.HoldEnd.{HoldEnd}
use Rattle.ilp_desk.specs.declared.record.HoldEnd.TheVariants.{Fulfilled, Released}

-- ---- what an entry's record says

-- the hold n, and how it ended
abbrev pub answered_hold : ℕ → HoldEnd → Hold → Recorded
answered_hold n ended h = recorded.Answered (record { hold = n; from = h.from; to = h.to; amount = h.amount; out = h.out; condition = h.condition; ended = ended })

-- the settlement n, and what its engine said of it
abbrev pub closed : ℕ → EngineVerdict → Ask → Recorded
closed n verdict a = recorded.Closed n a.peer a.amount verdict

-- the release of the hold n: where it came too late, nothing is kept of it
abbrev pub released : Entries → ℕ → Cause → Option Recorded
released j n cause.Late = None
released j n cause.WrongPreimage = option_map (answered_hold n (Released cause.WrongPreimage)) (hold_at j n)
released j n cause.NoReply = option_map (answered_hold n (Released cause.NoReply)) (hold_at j n)
released j n (cause.Peer code) = option_map (answered_hold n (Released (cause.Peer code))) (hold_at j n)
released j n cause.Restart = option_map (answered_hold n (Released cause.Restart)) (hold_at j n)

-- what is kept of an entry of j
abbrev pub recorded_of : Entries → What → Option Recorded
recorded_of j (what.Hold h) = None
recorded_of j (what.Fulfilled n preimage) = option_map (answered_hold n Fulfilled) (hold_at j n)
recorded_of j (what.Released n c) = released j n c
recorded_of j (what.Credited c) = Some (recorded.Credited c.peer c.credited (lowers c.kind))
recorded_of j (what.Asked a) = None
recorded_of j (what.Confirmed n) = option_map (closed n Accepted) (ask_at j n)
recorded_of j (what.Undone n) = option_map (closed n Refused) (ask_at j n)
recorded_of j (what.Opened peer balance) = None
recorded_of j (what.Known c) = None
recorded_of j (what.Pending peer amount key) = None

-- the record of an entry of j, which has the number n
abbrev pub record_of : Entries → ℕ → Entry → Option Record
record_of j n e = option_map (λ (kept : Recorded). record { number = n; what = kept }) (recorded_of j e.what)

-- what is kept of the entry under the number n, if there is one
abbrev pub record_at : Entries → ℕ → Option Record
record_at j n = option_and_then (λ (e : Entry). record_of j n e) (slice_get j n)

-- what is kept of it, if it is the actor's
abbrev pub record_by : Entries → ℕ → ℕ → Option Record
record_by j n actor = option_and_then (λ (e : Entry). if actor == e.actor then record_of j n e else None) (slice_get j n)

-- ---- lists of records

-- what f makes of each place and element, in order, the first place being n
abbrev pub listed_from : {X Y : Type 0} → (ℕ → X → Option Y) → ℕ → List X → List Y
listed_from f n [] = []
listed_from f n (x ∷ xs) = option_to_list (f n x) ++ listed_from f (n + 1) xs

-- the records of the entries from the place base on whose actor passes the test
abbrev pub records_by : (ℕ → Bool) → Entries → ℕ → List Record
records_by test j base = listed_from (λ n (e : Entry). if test e.actor then record_of j n e else None) base (drop base j)

-- those of one actor
abbrev pub actor_records : Entries → ℕ → ℕ → List Record
actor_records j base actor = records_by (λ a. actor == a) j base

-- those of all actors
abbrev pub all_records : Entries → ℕ → List Record
all_records j base = records_by (λ _. true) j base
