-- The lines of a log's file.
use Rattle.std.specs.Prelude.{◌≡◌, ◌≤◌, ◌<◌, ℕ, List, [], ◌∷◌, ◌++◌, length, drop, slice_range, map}
use Rattle.std.specs.List.{flat_map}
use Rattle.std.specs.Fmt.{decimal, signed_decimal}
use Rattle.ilp_accounts.specs.Configuration.{Configuration}
use Rattle.ilp_journal.specs.declared.entry.Entry.{Entry}
use Rattle.ilp_journal.specs.Journal.{Entries}
use Rattle.ilp_journal_text.specs.Text.{after_space, what_fields, entry_line}
use Rattle.ilp_line_file.specs.Text.{text_of, AreLines}
use Rattle.ilp_desk.specs.Desk.{nothing}

-- what a log's file is to have: the configuration by which entries are spelled, the lines before those of entries, and the number
-- of the first entry that has a line there
pub record LogForm : Type 0 where
  pub config : Configuration
  pub head : List (List ℕ)
  pub base : ℕ

-- what stands for the form where no log is named
abbrev pub no_form : LogForm
no_form = record { config = nothing; head = []; base = 0 }

-- the line of an entry in the journal's text, without its LF
abbrev pub words_of : Configuration → Entry → List ℕ
words_of C e = signed_decimal e.moment ++ flat_map after_space (decimal e.actor ∷ what_fields C e.what)

-- the lines of these entries
abbrev pub entry_lines : Configuration → Entries → List (List ℕ)
entry_lines C entries = map (words_of C) entries

-- the lines of a log that has all of these entries
abbrev pub lines_of : LogForm → Entries → List (List ℕ)
lines_of form entries = form.head ++ entry_lines form.config (drop form.base entries)

-- the text of the entries from one number up to another, of which each has one line
pub record AreLinesOf (C : Configuration) (entries : Entries) (from to : ℕ) (text : List ℕ) : Type 0 where
  pub whole : text ≡ text_of (entry_lines C (slice_range entries from to))
  pub lines : AreLines (entry_lines C (slice_range entries from to))

-- a group of entries that goes on from this number, and has one at least if there is one
pub record IsGroup (C : Configuration) (entries : Entries) (from to : ℕ) (text : List ℕ) : Type 0 where
  pub later : from ≤ to
  pub within : to ≤ length entries
  pub some : from < length entries → from < to
  pub spelled : AreLinesOf C entries from to text

-- Behind the text of its head, a log's text is the lines that the journal's text has of the same entries.
abbrev pub HasJournalLines : LogForm → Entries → Type 0
HasJournalLines form entries = text_of (lines_of form entries) ≡ text_of form.head ++ flat_map (entry_line form.config) (drop form.base entries)
