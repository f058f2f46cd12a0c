-- How long a peer's turns rest after its engine refused a settlement.
use Rattle.std.specs.Prelude.{ℕ, ◌==◌, if◌then◌else◌}
use Rattle.ilp_notices.specs.Doubling.{doubled}
use Rattle.ilp_settling.specs.declared.pauses.TheConstants.{FIRST, LONGEST}

-- The pause that follows one of this length, in milliseconds. Where none was since a settlement was accepted, it is the first; else
-- twice the last one, and at most the longest.
abbrev pub pause_after : ℕ → ℕ
pause_after length = if length == 0 then FIRST else doubled length LONGEST
