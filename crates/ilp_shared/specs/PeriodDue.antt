-- When the period of a desk ends by itself.
use Rattle.std.specs.Prelude.{◌≡◌, ◌⊎◌, ℕ, ◌+◌, ◌*◌, ◌<◌, ◌≤◌, length}
use Rattle.std.specs.declared.time.Duration.{Duration}
use Rattle.ilp_journal.specs.Journal.{open_count}
use Rattle.ilp_book.specs.Book.{PlainBook}

-- Of the entries that the journal may have so many percent are taken, with the room that is kept for what is open; and behind the
-- entries that were brought forward stand as many more.
pub record IsDue (percent head : ℕ) (book : PlainBook) : Type 0 where
  pub taken : percent * book.config.settings.journal ≤ 100 * (length book.entries + open_count book.entries)
  pub behind : 2 * head ≤ length book.entries

-- by a clock the moment from is not after now: seconds come first, and then the nanoseconds behind these
abbrev pub IsFrom : Duration → Duration → Type 0
IsFrom from now = (from.secs < now.secs) ⊎ ((from.secs ≡ now.secs) × (from.nanos ≤ now.nanos))
