-- What is remembered of the run whose entries a start finds, and what of that its configuration may not change.
use Rattle.std.specs.Prelude.{◌≡◌, ◌⊎◌, ℕ, List, Option, Some, None}
use Rattle.ilp_accounts.specs.Configuration.{Configuration}
use Rattle.ilp_journal.specs.Journal.{Entries}
use Rattle.ilp_log_text.specs.Remembering.{remembered_in}
use Rattle.ilp_log_text.specs.Text.{PlainLogText, IsLogText, IsBadHead}
use Rattle.ilp_log_text.specs.declared.reading.BadHead.{BadHead}
use Rattle.ilp_refusals.specs.declared.refusal.Refusal.{Refusal}
use Rattle.ilp_refusals.specs.declared.refusal.Refusal.TheVariants as refusals
use Rattle.ilp_remembered.specs.Remembered.{FindsChange}
use Rattle.ilp_remembered.specs.declared.change.Change.{Change}
use Rattle.ilp_starting.specs.declared.carrying.Source.{Source}
use Rattle.ilp_starting.specs.declared.carrying.Source.TheVariants.{Saved, OlderLog, Logged}

-- ---- of a text that is remembered

-- The configuration has the run and the assets that the text says, as far as something hangs on them.
abbrev pub IsUnchanged : Configuration → Entries → List ℕ → Type 0
IsUnchanged C j text = FindsChange C j text None

-- It has another run or asset, on which something hangs.
abbrev pub IsChanged : Configuration → Entries → List ℕ → Type 0
IsChanged C j text = (change : Change) × FindsChange C j text (Some change)

-- why a start by it is refused
abbrev pub IsWhyNotUnchanged : Configuration → Entries → List ℕ → Refusal → Type 0
IsWhyNotUnchanged C j text refusal = (refusal ≡ refusals.Memory) ⊎ ((refusal ≡ refusals.JournalUnread) × IsChanged C j text)

-- ---- which text that is

-- That of a log's head, where it can be read; else the one that is kept beside the journal.
abbrev pub IsRememberedBy : Option (List ℕ) → List ℕ → List ℕ → Type 0
IsRememberedBy None kept text = text ≡ kept
IsRememberedBy (Some octets) kept text =
    ((log : PlainLogText) × IsLogText octets log × (text ≡ remembered_in log.remembered)) ⊎
    ((bad : BadHead) × IsBadHead octets bad × (text ≡ kept))

-- Where entries come from a log, what that remembers; else what is kept beside the journal.
abbrev pub IsRemembered : Source → Option (List ℕ) → List ℕ → List ℕ → Type 0
IsRemembered Saved log kept text = text ≡ kept
IsRemembered OlderLog log kept text = text ≡ kept
IsRemembered (Logged saved logged) log kept text = IsRememberedBy log kept text

-- ---- of what a start finds

-- Of the text that is remembered nothing was changed.
abbrev pub KeepsRemembered : Configuration → Entries → Source → Option (List ℕ) → List ℕ → Type 0
KeepsRemembered C j source log kept = (text : List ℕ) × IsRemembered source log kept text × IsUnchanged C j text

-- Why a start is refused that has read all: for want of memory, or since of that text something was changed.
abbrev pub IsWhyNotKept : Configuration → Entries → Source → Option (List ℕ) → List ℕ → Refusal → Type 0
IsWhyNotKept C j source log kept refusal =
    (refusal ≡ refusals.Memory) ⊎
    ((refusal ≡ refusals.JournalUnread) × ((text : List ℕ) × IsRemembered source log kept text × IsChanged C j text))
