-- What a crash leaves of a journal, and what a start makes of that.
use Rattle.std.specs.Prelude.{◌≡◌, ℕ, ◌<◌, ◌^◌, List, length, Option, All}
use mathlib.Core.List.{IsPrefix}
use Rattle.ilp_accounts.specs.Configuration.{Configuration}
use Rattle.ilp_accounts.specs.Valid.{IsValid}
use Rattle.ilp_journal.specs.Journal.{Entries}
use Rattle.ilp_journal_text.specs.Reading.{IsTyped}
use Rattle.ilp_journal_text.specs.Text.{journal_text}
use Rattle.ilp_line_file.specs.Text.{IsBetween}
use Rattle.ilp_log.specs.Lines.{LogForm, lines_of}
use Rattle.ilp_log_text.specs.Head.{head_lines}
use Rattle.ilp_rules.specs.Book.{PlainBook}
use Rattle.ilp_rules.specs.Lawful.{IsLawful}
use Rattle.ilp_rules.specs.Recover.{BeginsWith}
use Rattle.ilp_starting.specs.Beginning.{text_or_nothing, saved_or_none}

-- the log that goes on from these entries, whose text was saved, or from none where nothing was
abbrev pub log_behind : Configuration → Entries → Option (List ℕ) → LogForm
log_behind C opening text = record { config = C; head = head_lines C (length opening) (text_or_nothing text); base = length opening }

-- the book of a run that began with these entries, which is lawful and has numbers as its types do
pub record IsOfRun (opening : Entries) (book : PlainBook) : Type 0 where
  pub valid : IsValid book.config
  pub lawful : IsLawful book
  pub typed : All IsTyped book.entries
  pub few : length book.entries < 2 ^ 32
  pub base : book.base ≡ length opening

-- A crash left a text and a log of a run that began with these entries. The text has just those. The log goes on from there; it has
-- the lines of all that was told to be kept, and of nothing that wasn't booked.
pub record IsLeft (opening told : Entries) (book : PlainBook) (text : Option (List ℕ)) (octets : List ℕ) : Type 0 where
  pub saved : saved_or_none text ≡ journal_text book.config book.period opening
  pub begun : IsPrefix opening told
  pub booked : IsPrefix told book.entries
  pub between : IsBetween (lines_of (log_behind book.config opening text) told) (lines_of (log_behind book.config opening text) book.entries) octets

-- It begins with all that was told, and has nothing else that the book hadn't, but for ends of holds behind it.
pub record IsWhole (told : Entries) (book recovered : PlainBook) : Type 0 where
  pub reached : Entries
  pub has : IsPrefix told reached
  pub booked : IsPrefix reached book.entries
  pub begins : BeginsWith reached recovered
