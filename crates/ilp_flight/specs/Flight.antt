-- What a worker begins, and what waits then.
use Rattle.std.specs.Prelude.{◌≡◌, ℕ, Some, None, Result, Ok, Err}
use Rattle.slab.specs.Slab.{Slab, get, SameValues, Updates}
use Rattle.ilp_workers.specs.Worker.{PlainWorker}
use Rattle.ilp_workers.specs.Arrivals.{Arrival, IsBad}
use Rattle.ilp_workers.specs.Pending.{PlainPending}
use Rattle.ilp_workers.specs.Halves.{AnswersAtOnce, StartsWaiting, StartsAsking}
use Rattle.ilp_flight.specs.declared.flight.Started.{Started}
use Rattle.ilp_flight.specs.declared.flight.Started.TheVariants.{Answered, Waits, Asks}
use Rattle.ilp_flight.specs.declared.flight.NoStart.{NoStart}
use Rattle.ilp_flight.specs.declared.flight.NoStart.TheVariants.{Bad, Memory}

-- Under a key that was free a packet waits that was begun, and under each other key what waited before.
pub record WaitsUnder (a : Arrival) (waiting waiting' : Slab PlainPending) (before after : PlainWorker) (key : ℕ) : Type 0 where
  pub packet : PlainPending
  pub free : get waiting key ≡ None
  pub waits : Updates waiting waiting' key (Some packet)
  pub starts : StartsWaiting a before after packet

-- Where nothing is begun the worker is as it was. What waited still waits.
abbrev pub Starts : Arrival → Slab PlainPending → Slab PlainPending → PlainWorker → PlainWorker → Result Started NoStart → Type 0
Starts a waiting waiting' before after (Ok (Answered receipt)) = AnswersAtOnce a before after receipt × SameValues waiting waiting'
Starts a waiting waiting' before after (Ok (Waits key)) = WaitsUnder a waiting waiting' before after key
Starts a waiting waiting' before after (Ok (Asks message)) = StartsAsking a before after message × SameValues waiting waiting'
Starts a waiting waiting' before after (Err (Bad fault)) = IsBad a.octets fault × (after ≡ before) × SameValues waiting waiting'
Starts a waiting waiting' before after (Err Memory) = (after ≡ before) × SameValues waiting waiting'
