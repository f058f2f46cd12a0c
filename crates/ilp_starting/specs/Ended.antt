-- What text is kept of a period whose log was set aside, and where such a log is kept no longer.
use Rattle.std.specs.Prelude.{◌≡◌, ◌⊎◌, ℕ, ◌+◌, ◌<◌, List, [], ◌++◌, Option}
use Rattle.ilp_line_file.specs.Text.{text_of}
use Rattle.ilp_journal_text.specs.Reading.{Begins, LacksFirstLine, Unread}
use Rattle.ilp_journal_text.specs.Text.{end_line}
use Rattle.ilp_log_text.specs.Text.{PlainLogText, IsIn}
use Rattle.ilp_starting.specs.Beginning.{GoesOn, line_count, text_or_nothing}

-- The whole text of a period, of that of its journal and of the log that goes on from it: the log's lines stand before the last line,
-- which counts them too.
pub record IsWholeText (saved : List ℕ) (log : PlainLogText) (whole : List ℕ) : Type 0 where
  pub front : List ℕ
  pub is : saved ≡ front ++ end_line log.count
  pub all : whole ≡ front ++ (text_of log.lines ++ end_line (log.count + line_count (text_of log.lines)))

-- The period of a text is the one that its first line names, and the first one where there is no such line.
abbrev pub IsPeriodOf : List ℕ → ℕ → Type 0
IsPeriodOf text period =
    ((unread : Unread) × Begins text unread × (period ≡ unread.period)) ⊎
    (LacksFirstLine text × (period ≡ 0))

-- A text is of a later period than the first.
abbrev pub IsLater : List ℕ → Type 0
IsLater text = (period : ℕ) × IsPeriodOf text period × (0 < period)

-- What a log has that was set aside stands elsewhere: it goes on from the journal's text, and has no line; or that text has it all; or,
-- where that is of a later period, another one has: that of the period before (whose file that is, no clause can say).
abbrev pub IsOver : PlainLogText → Option (List ℕ) → Type 0
IsOver log text =
    (GoesOn log text × (log.lines ≡ [])) ⊎
    ((¬ GoesOn log text) × IsIn log (text_or_nothing text)) ⊎
    ((¬ GoesOn log text) × IsLater (text_or_nothing text) × ((kept : List ℕ) × IsIn log kept))
