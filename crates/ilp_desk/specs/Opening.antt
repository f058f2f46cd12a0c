-- How a desk begins, and why none does.
use Rattle.std.specs.Prelude.{ℕ, ◌<◌, ◌≤◌, ◌⊎◌, List, map}
use Rattle.std.specs.List.{range_with_len}
use Rattle.ilp_accounts.specs.Limits.{most_workers}
use Rattle.ilp_desk.specs.declared.desk.WhyNoDesk.{WhyNoDesk}
use Rattle.ilp_desk.specs.declared.desk.WhyNoDesk.TheVariants.{BadWorkers, Memory}
use Rattle.ilp_desk.specs.Desk.{PlainDesk, actors_of}
use Rattle.ilp_desk.specs.Portion.{Portion, portion}

-- the shares of all actors, in order, with which nothing is booked yet
abbrev pub first_shares : PlainDesk → List Portion
first_shares desk = map (λ actor. portion actor 0) (range_with_len 0 (actors_of desk))

-- how many workers a desk may have
abbrev pub IsWorkerCount : ℕ → Type 0
IsWorkerCount workers = (1 ≤ workers) × (workers ≤ most_workers)

-- No desk is opened for another number of workers. For one that it may have, the reason is want of memory.
abbrev pub IsWhyNot : ℕ → WhyNoDesk → Type 0
IsWhyNot workers BadWorkers = (workers < 1) ⊎ (most_workers < workers)
IsWhyNot workers Memory = IsWorkerCount workers
