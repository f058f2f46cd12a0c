-- When lines on one thing are told.
use Rattle.std.specs.Prelude.{ℕ, ◌+◌, nat_le, ◌==◌, ◌||◌, if◌then◌else◌}
use Rattle.ilp_notices.specs.declared.pace.TheConstants.{FIRST_REST, LONGEST_REST, CALM}
use Rattle.ilp_notices.specs.Doubling.{doubled}

-- How long it is to the next line after one that is told at this time. The first line on a thing, and one after all was calm, begin
-- at the first rest; else it is twice the last one, and at most the longest.
abbrev pub next_rest : ℕ → ℕ → ℕ → ℕ
next_rest rest due now =
    if (rest == 0) || nat_le (due + CALM) now then FIRST_REST else doubled rest LONGEST_REST
