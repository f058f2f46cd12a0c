-- What the octets of a log's file say.
use Rattle.std.specs.Prelude.{◌≡◌, ◌≢◌, ℕ, ◌<◌, ◌^◌, List, ◌∷◌, ◌++◌, drop, codes, ◌==◌, if◌then◌else◌}
use Rattle.std.specs.Fmt.{decimal}
use mathlib.Core.List.{IsPrefix}
use Rattle.ilp_line_file.specs.Text.{recovered}
use Rattle.ilp_journal_text.specs.Reading.{AreOctets}
use Rattle.ilp_remembered.specs.Remembered.{run_front}
use Rattle.ilp_log_text.specs.declared.reading.BadHead.{BadHead}
use Rattle.ilp_log_text.specs.declared.reading.BadHead.TheVariants.{First, Second}
use Rattle.ilp_log_text.specs.Head.{first_line}

-- A log: how many entries the journal's text has that it goes on from, the digest of that text, what is remembered of the run, and
-- the lines of entries.
pub record PlainLogText : Type 0 where
  pub count : ℕ
  pub digest : List ℕ
  pub remembered : List ℕ
  pub lines : List (List ℕ)

-- a number and a digest that a first line may have
pub record CanBegin (count : ℕ) (digest : List ℕ) : Type 0 where
  pub few : count < 2 ^ 32
  pub octets : AreOctets 32 digest

-- the line begins with the word of a run
abbrev pub NamesRun : List ℕ → Type 0
NamesRun line = (after : List ℕ) × (line ≡ run_front ++ after)

-- the whole lines of these octets are those of a log
pub record IsLogText (octets : List ℕ) (log : PlainLogText) : Type 0 where
  pub lines : recovered octets ≡ first_line log.count log.digest ∷ log.remembered ∷ log.lines
  pub begins : CanBegin log.count log.digest
  pub run : NamesRun log.remembered

-- no line of a log's beginning comes first
abbrev pub LacksFirst : List (List ℕ) → Type 0
LacksFirst lines = (count : ℕ) (digest : List ℕ) (after : List (List ℕ)) → CanBegin count digest → lines ≢ first_line count digest ∷ after

-- it does, and behind it comes no line of a run
pub record LacksSecond (lines : List (List ℕ)) : Type 0 where
  pub count : ℕ
  pub digest : List ℕ
  pub after : List (List ℕ)
  pub first : lines ≡ first_line count digest ∷ after
  pub begins : CanBegin count digest
  pub lacks : (line : List ℕ) (further : List (List ℕ)) → NamesRun line → after ≢ line ∷ further

-- the first of the two lines that is missing or bad
abbrev pub IsBadHead : List ℕ → BadHead → Type 0
IsBadHead octets First = LacksFirst (recovered octets)
IsBadHead octets Second = LacksSecond (recovered octets)

-- the first line of the text of a period's journal, without its end
abbrev pub journal_form : ℕ → List ℕ
journal_form period = if period == 0 then codes "ilp-journal 1" else codes "ilp-journal 2 " ++ decimal period

-- lines of which the first is that of a period's journal, and what stands behind it
pub record IsJournal (lines entries : List (List ℕ)) : Type 0 where
  pub period : ℕ
  pub numbered : period < 2 ^ 32
  pub first : lines ≡ journal_form period ∷ entries

-- A text of the journal, of whatever period, has all lines of the log, those of entries from the number `count` on.
pub record IsIn (log : PlainLogText) (saved : List ℕ) : Type 0 where
  pub entries : List (List ℕ)
  pub journal : IsJournal (recovered saved) entries
  pub has : IsPrefix log.lines (drop log.count entries)
