-- Which texts of saved journals are recovered, with the lines that were logged behind them.
use Rattle.std.specs.Prelude.{◌≡◌, ℕ, ℤ, List, ◌++◌, All, ◌⊎◌, ⊤}
use Rattle.ilp_accounts.specs.Configuration.{Configuration}
use Rattle.ilp_journal.specs.declared.entry.Entry.{Entry}
use Rattle.ilp_journal.specs.declared.entry.What.TheVariants as what
use Rattle.ilp_journal.specs.declared.entry.Cause.{Cause}
use Rattle.ilp_journal.specs.declared.entry.Cause.TheVariants.{Late, Restart}
use Rattle.ilp_journal.specs.Journal.{Entries}
use Rattle.ilp_journal_text.specs.Reading.{IsTextOf, IsFirstBadLine, AreLinesOf, IsFirstBadEntryLine}
use Rattle.ilp_journal_text.specs.declared.reading.TextFault.{TextFault}
use Rattle.ilp_journal_text.specs.declared.reading.TextFault.TheVariants as text_fault
use Rattle.ilp_rules.specs.declared.fault.RecoverFault.{RecoverFault}
use Rattle.ilp_rules.specs.declared.fault.RecoverFault.TheVariants.{BadJournalText, BadLogLine, Unlawful, Memory}
use Rattle.ilp_rules.specs.declared.fault.Stop.{Stop}
use Rattle.ilp_rules.specs.declared.fault.Stop.TheVariants as stop
use Rattle.ilp_rules.specs.Book.{PlainBook}
use Rattle.ilp_rules.specs.Carried.{begun_with, carried}
use Rattle.ilp_rules.specs.Carry.{IsFirstUnlawful}
use Rattle.ilp_rules.specs.Lawful.{IsLawful}

-- The text is that of a journal, and the lines are those of later entries. Together they are a lawful journal, in which holds may be
-- open, and this is the book of the text's period that begins with it.
pub record IsRecovered (C : Configuration) (saved logged : List ℕ) (now : ℤ) (book : PlainBook) : Type 0 where
  pub period : ℕ
  pub entries : Entries
  pub later : Entries
  pub written : IsTextOf C period entries saved
  pub lines : AreLinesOf C later logged
  pub lawful : IsLawful (begun_with C period (entries ++ later))
  pub begins : book ≡ carried C period (entries ++ later) now

-- The fault names the first bad line of a text that is no journal's; or, where it is one, the first bad line of what was logged; or,
-- where that has none, the first unlawful one of all entries, with a rule that it breaks.
abbrev pub IsWhyNotRecovered : Configuration → List ℕ → List ℕ → RecoverFault → Type 0
IsWhyNotRecovered C saved logged (BadJournalText line) = IsFirstBadLine C saved line
IsWhyNotRecovered C saved logged (BadLogLine line) =
    (period : ℕ) × (entries : Entries) × IsTextOf C period entries saved × IsFirstBadEntryLine C logged line
IsWhyNotRecovered C saved logged (Unlawful entry rule) =
    (period : ℕ) × (entries : Entries) × (later : Entries) × IsTextOf C period entries saved × AreLinesOf C later logged
    × IsFirstUnlawful C period (entries ++ later) entry rule
IsWhyNotRecovered C saved logged Memory = ⊤

-- ---- what a recovered book begins with

-- the end of a hold as the connector starts again
abbrev pub IsEndByStart : Entry → Type 0
IsEndByStart e = (hold : ℕ) × (cause : Cause) × (e.what ≡ what.Released hold cause) × ((cause ≡ Late) ⊎ (cause ≡ Restart))

-- a book begins with these entries, and behind them it has nothing but ends of holds
pub record BeginsWith (entries : Entries) (book : PlainBook) : Type 0 where
  pub ends : Entries
  pub whole : book.entries ≡ entries ++ ends
  pub only : All IsEndByStart ends

-- ---- faults

-- a fault of the saved text, and one of the logged lines
abbrev pub of_saved : TextFault → RecoverFault
of_saved (text_fault.BadLine line) = BadJournalText line
of_saved text_fault.Memory = Memory

abbrev pub of_logged : TextFault → RecoverFault
of_logged (text_fault.BadLine line) = BadLogLine line
of_logged text_fault.Memory = Memory

-- why not all entries were taken up
abbrev pub of_stop : Stop → RecoverFault
of_stop (stop.Unlawful entry rule) = Unlawful entry rule
of_stop stop.Memory = Memory
