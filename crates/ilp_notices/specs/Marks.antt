-- How full a journal is, and when that is told.
use Rattle.std.specs.Prelude.{ℕ, ◌*◌, ◌<◌, ◌≤◌, nat_le, if◌then◌else◌}
use Rattle.ilp_notices.specs.declared.journal.Mark.{Mark}
use Rattle.ilp_notices.specs.declared.journal.Mark.TheVariants.{Eighty, Ninety, NinetyFive}

-- the percent at which a mark is reached
abbrev pub percent_of : Mark → ℕ
percent_of Eighty = 80
percent_of Ninety = 90
percent_of NinetyFive = 95

-- the percent of the greatest mark that is reached at so many percent; 0 where none is
abbrev pub greatest_reached : ℕ → ℕ
greatest_reached percent =
    if nat_le 95 percent then 95
    else (if nat_le 90 percent then 90 else (if nat_le 80 percent then 80 else 0))

-- a journal has 80 percent or more of the entries that it may have
abbrev pub IsNearlyFull : ℕ → ℕ → Type 0
IsNearlyFull entries limit = limit * 80 ≤ entries * 100

-- a journal has so many percent of the entries that it may have before as many as its head has stand behind that
abbrev pub HasLongHead : ℕ → ℕ → ℕ → Type 0
HasLongHead head limit percent = limit * percent < head * 200
