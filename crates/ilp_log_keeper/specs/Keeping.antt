-- What the keeper of a log was told.
use Rattle.std.specs.Prelude.{ℕ, List, Option, Some, None}
use mathlib.Core.List.{IsPrefix}
use Rattle.ilp_log.specs.declared.ack.Ack.{Ack}

-- it was told that these lines at least are on the disk
abbrev pub HasTold : List (List ℕ) → Option Ack → Type 0
HasTold lines None = ⊥
HasTold lines (Some told) = IsPrefix lines told.lines
