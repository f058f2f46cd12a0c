-- Where the entries come from with which a book begins, and how many those are.
use Rattle.std.specs.Prelude.{◌≡◌, ◌⊎◌, ℕ, ◌+◌, ◌-◌, ◌^◌, min, List, Option, Some, None}
use Rattle.ilp_line_file.specs.Text.{text_of}
use Rattle.ilp_log_text.specs.Text.{PlainLogText, IsLogText}
use Rattle.ilp_starting.specs.Beginning.{GoesOn, line_count, text_or_nothing}
use Rattle.ilp_starting.specs.declared.carrying.Source.{Source}
use Rattle.ilp_starting.specs.declared.carrying.Source.TheVariants.{Saved, OlderLog, Logged}

-- as many from the text as the log says, and one from each line of the log; and at most the greatest number
abbrev pub logged_by : PlainLogText → Source
logged_by log = Logged log.count (min (line_count (text_of log.lines)) (2 ^ 32 - 1))

-- beside a log: from both where it goes on from the text; else the text has what the log has
abbrev pub IsSourceBeside : Option (List ℕ) → PlainLogText → Source → Type 0
IsSourceBeside text log source = (GoesOn log text × (source ≡ logged_by log)) ⊎ ((¬ GoesOn log text) × (source ≡ OlderLog))

-- of a journal's text and the octets of a log, where there are such
abbrev pub IsSource : Option (List ℕ) → Option (List ℕ) → Source → Type 0
IsSource text None source = source ≡ Saved
IsSource text (Some octets) source = (log : PlainLogText) × IsLogText octets log × IsSourceBeside text log source

-- how many entries a text has, beside its first line and its last; and at most the greatest number
abbrev pub entries_in : List ℕ → ℕ
entries_in text = min (line_count text - 2) (2 ^ 32 - 1)

-- how many stand in a journal's text and in its log, as the source says, where there is this text
abbrev pub written_by : Source → Option (List ℕ) → ℕ
written_by Saved text = entries_in (text_or_nothing text)
written_by OlderLog text = entries_in (text_or_nothing text)
written_by (Logged saved logged) text = min (saved + logged) (2 ^ 32 - 1)
