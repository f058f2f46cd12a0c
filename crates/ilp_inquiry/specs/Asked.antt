-- What the words of an inquiry mean: a peer's name, two moments, and what a condition begins with.
use Rattle.std.specs.Prelude.{ℕ, ◌<◌, ◌≤◌, ℤ, min, max, IsTrue, List, length, Option, Some, None}
use Rattle.std.specs.List.{list_all}
use Rattle.std.specs.Char.{is_ascii_hexdigit}
use Rattle.ilp_journal.specs.Journal.{Entries}
use Rattle.ilp_statement.specs.Statement.{number_from}

-- ---- of which entries a statement is

-- the first of so many entries that is not before a moment, from which on they are asked for; without one the first of all
abbrev pub first_asked : Entries → ℕ → Option ℤ → ℕ
first_asked j written None = 0
first_asked j written (Some from) = min (number_from j from) written

-- the one behind the last of them that is before a moment, until which they are asked for; without one that behind all. None is listed of a
-- range that ends before it begins.
abbrev pub behind_asked : Entries → ℕ → ℕ → Option ℤ → ℕ
behind_asked j written first None = written
behind_asked j written first (Some to) = max (min (number_from j to) written) first

-- ---- what a condition begins with

-- 1 to 64 hexadecimal digits
pub record AreDigits (digits : List ℕ) : Type 0 where
  pub some : 0 < length digits
  pub within : length digits ≤ 64
  pub hexadecimal : IsTrue (list_all is_ascii_hexdigit digits)
