-- What a book begins with that is carried over from one run of the connector to the next.
use Rattle.std.specs.Prelude.{ℕ, ℤ, int_le, ◌++◌, length, option_map, option_to_list, if◌then◌else◌}
use Rattle.std.specs.List.{flat_map, range_with_len}
use Rattle.ilp_accounts.specs.Configuration.{Configuration}
use Rattle.ilp_journal.specs.declared.entry.Entry.{Entry}
use Rattle.ilp_journal.specs.declared.entry.What.TheVariants as what
use Rattle.ilp_journal.specs.declared.entry.Cause.TheVariants.{Late, Restart}
use Rattle.ilp_journal.specs.declared.entry.Hold.{Hold}
use Rattle.ilp_journal.specs.Journal.{Entries, open_hold_at}
use Rattle.ilp_rules.specs.Book.{PlainBook, moment_at}

-- the book of a period that begins with these entries
abbrev pub begun_with : Configuration → ℕ → Entries → PlainBook
begun_with C period entries = record { config = C; period = period; base = length entries; entries = entries }

-- the end of the open hold n as the connector starts again, at the moment m
abbrev pub ended_by_start : ℤ → ℕ → Hold → Entry
ended_by_start m n h = record { moment = m; actor = 0; what = what.Released n (if int_le h.deadline m then Late else Restart) }

-- the end of the hold n, if it is open
abbrev pub end_of : ℤ → Entries → ℕ → Entries
end_of m j n = option_to_list (option_map (ended_by_start m n) (open_hold_at j n))

-- the ends of all open holds, in the order of their numbers
abbrev pub ends_of_open : ℤ → Entries → Entries
ends_of_open m j = flat_map (end_of m j) (range_with_len 0 (length j))

-- the book that begins with carried entries and the ends of their open holds
abbrev pub carried : Configuration → ℕ → Entries → ℤ → PlainBook
carried C period entries now = begun_with C period (entries ++ ends_of_open (moment_at entries now) entries)
