-- How a source in pieces goes on after a read.
use Rattle.std.specs.Prelude.{ℕ, ◌-◌, Option, Some, None, Result, Ok, Err}

-- how many octets then come before the read that fails: a read that gave some leaves fewer, and after the one that failed none fails
abbrev pub left_before_failure : {E : Type 0} → Option ℕ → Result ℕ E → Option ℕ
left_before_failure None result = None
left_before_failure (Some octets) (Ok count) = Some (octets - count)
left_before_failure (Some octets) (Err fault) = None
