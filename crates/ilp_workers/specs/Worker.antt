-- A worker as contracts see it.
use Rattle.std.specs.Prelude.{◌≡◌, ℕ, ℤ, List, Option, Result}
use Rattle.ilp_journal.specs.Journal.{Entries}
use Rattle.ilp_desk.specs.declared.record.Record.{Record}
use Rattle.ilp_desk.specs.Portion.{Portion}
use Rattle.ilp_keeping.specs.declared.keeper.NotKept.{NotKept}
use Rattle.ilp_keeping.specs.Keeping.{ToKeeper, IsHanded}
use Rattle.ilp_workers.specs.declared.parts.Buffer.{Buffer}
use Rattle.ilp_workers.specs.declared.parts.Buffer.TheVariants.{Incoming, Rejected}
use Rattle.ilp_link_traits.specs.Links.{Sending, ToEngine}

-- its share, the records of what it booked, what its links tell (the moments of its clock, what peers were handed, and what
-- engines were handed), the journal that its receipt has seen, what its keeper was asked, the octets by which the sender of the
-- last packet is answered, and how many packets it began that wait
pub record PlainWorker : Type 0 where
  pub share : Portion
  pub records : List Record
  pub moments : Option (List ℤ)
  pub sent : Option (List Sending)
  pub engine : Option (List ToEngine)
  pub seen : Entries
  pub kept : Option (List ToKeeper)
  pub reply : List ℕ
  pub pending : ℕ

abbrev pub worker : Portion → List Record → Option (List ℤ) → Option (List Sending) → Option (List ToEngine) → Entries → Option (List ToKeeper) → List ℕ → ℕ → PlainWorker
worker share records moments sent engine seen kept reply pending =
    record { share = share; records = records; moments = moments; sent = sent; engine = engine; seen = seen; kept = kept; reply = reply; pending = pending }

-- the same, which has the sender of the last packet answered with these octets
abbrev pub replied : PlainWorker → List ℕ → PlainWorker
replied w reply = worker w.share w.records w.moments w.sent w.engine w.seen w.kept reply w.pending

-- its seat at the desk: what its sessions and its keeper change
pub record Seat : Type 0 where
  pub share : Portion
  pub records : List Record
  pub moments : Option (List ℤ)
  pub seen : Entries
  pub kept : Option (List ToKeeper)

abbrev pub seat : Portion → List Record → Option (List ℤ) → Entries → Option (List ToKeeper) → Seat
seat share records moments seen kept = record { share = share; records = records; moments = moments; seen = seen; kept = kept }

abbrev pub seat_of : PlainWorker → Seat
seat_of w = seat w.share w.records w.moments w.seen w.kept

-- The keeper is handed the journal that the worker has seen, and says this of it. What is seen since begins with that, and all else
-- stays.
pub record IsKept (said : Result (Unit {0}) NotKept) (before after : Seat) : Type 0 where
  pub handed : IsHanded before.seen said before.kept after.kept after.seen
  pub share : after.share ≡ before.share
  pub records : after.records ≡ before.records
  pub moments : after.moments ≡ before.moments

-- the octets of an answer, which stand in one of two buffers
abbrev pub reply_of : Buffer → List ℕ → List ℕ → List ℕ
reply_of Incoming incoming rejected = incoming
reply_of Rejected incoming rejected = rejected
