-- How often a source was read, and how often reads or writes failed, where that is known.
use Rattle.std.specs.Prelude.{◌≡◌, ◌⊎◌, ℕ, ◌+◌, ◌-◌, ◌^◌, ◌≤◌, Option, Some, None, ⊤, Result, Ok, Err, ◌==◌, ◌&&◌, nat_lt, if◌then◌else◌}

-- how many reads there were, and how many of them failed
pub record Tally : Type 0 where
  pub reads : ℕ
  pub failures : ℕ

-- the greatest number of a counter of 64 bits, at which it stops: there it stands for so many or more
abbrev pub most_counted : ℕ
most_counted = 2 ^ 64 - 1

-- a counter of 64 bits that stood at this number has come to its end, after so many more
abbrev pub IsAtItsEnd : ℕ → ℕ → Type 0
IsAtItsEnd count more = most_counted ≤ count + more

-- A known tally grew by these reads and failures, and is lost only where a counter came to its end. One that is not known stays so.
abbrev pub Tallies : Option Tally → Option Tally → ℕ → ℕ → Type 0
Tallies None None reads failures = ⊤
Tallies None (Some new) reads failures = ⊥
Tallies (Some old) None reads failures = IsAtItsEnd old.reads reads ⊎ IsAtItsEnd old.failures failures
Tallies (Some old) (Some new) reads failures =
    (new.reads ≡ old.reads + reads) × (new.failures ≡ old.failures + failures)

-- A known tally grew by at most so many reads and by just these failures, and is lost only where a counter can have come to its end. One that is not known stays so.
abbrev pub TalliesUpTo : Option Tally → Option Tally → ℕ → ℕ → Type 0
TalliesUpTo None None most failures = ⊤
TalliesUpTo None (Some new) most failures = ⊥
TalliesUpTo (Some old) None most failures = IsAtItsEnd old.reads most ⊎ IsAtItsEnd old.failures failures
TalliesUpTo (Some old) (Some new) most failures =
    (old.reads ≤ new.reads) × (new.reads ≤ old.reads + most) × (new.failures ≡ old.failures + failures)

-- A known count grew by n, and is lost only where the counter came to its end. One that is not known stays so.
abbrev pub CountsUp : Option ℕ → Option ℕ → ℕ → Type 0
CountsUp None None n = ⊤
CountsUp None (Some new) n = ⊥
CountsUp (Some old) None n = IsAtItsEnd old n
CountsUp (Some old) (Some new) n = new ≡ old + n

-- a write counts as a failure where it is an error or took no octet
abbrev pub failure_count : {E : Type 0} → Result ℕ E → ℕ
failure_count (Ok n) = if n == 0 then 1 else 0
failure_count (Err e) = 1

-- what a counter of 64 bits tells: its number, until it comes to its end
abbrev pub count_told : ℕ → Option ℕ
count_told count = if nat_lt count most_counted then Some count else None

-- what two such counters tell of reads and failures
abbrev pub tally_told : ℕ → ℕ → Option Tally
tally_told reads failures =
    if nat_lt reads most_counted && nat_lt failures most_counted
    then Some (record { reads = reads; failures = failures })
    else None
