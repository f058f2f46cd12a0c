-- What book a connector begins with, and why it begins with none.
use Rattle.std.specs.Prelude.{◌≡◌, ◌≤◌, ◌==◌, ◌⊎◌, ℕ, ◌+◌, ◌-◌, ◌^◌, min, ℤ, List, [], Option, Some, None, codes, count_by}
use Rattle.sha2.specs.Sha256.{sha256}
use Rattle.ilp_accounts.specs.Configuration.{Configuration}
use Rattle.ilp_line_file.specs.Text.{text_of}
use Rattle.ilp_book.specs.Book.{PlainBook, new_book}
use Rattle.ilp_book.specs.Carry.{IsCarriedOver, IsWhyNotCarried}
use Rattle.ilp_book.specs.Recover.{IsRecovered, IsWhyNotRecovered}
use Rattle.ilp_rules.specs.declared.fault.CarryFault.{CarryFault}
use Rattle.ilp_rules.specs.declared.fault.RecoverFault.{RecoverFault}
use Rattle.ilp_rules.specs.declared.fault.RecoverFault.TheVariants as recover_fault
use Rattle.ilp_log_text.specs.Text.{PlainLogText, IsLogText, IsBadHead, IsIn}
use Rattle.ilp_log_text.specs.declared.reading.BadHead.{BadHead}
use Rattle.ilp_log_text.specs.declared.reading.BadHead.TheVariants.{First, Second}
use Rattle.ilp_refusals.specs.Refusals.{carry_refusal}
use Rattle.ilp_refusals.specs.declared.refusal.Refusal.{Refusal}
use Rattle.ilp_refusals.specs.declared.refusal.Refusal.TheVariants as refusals

-- ---- a journal's text alone

-- A new one where there is no text of a journal; else the one as which the text is carried over at this time.
abbrev pub BeginsWith : Configuration → Option (List ℕ) → ℤ → PlainBook → Type 0
BeginsWith C None now book = book ≡ new_book C
BeginsWith C (Some text) now book = IsCarriedOver C text now book

-- The refusal names why the text is not carried over. Without a text it is for want of memory.
abbrev pub IsWhyNotBegun : Configuration → Option (List ℕ) → Refusal → Type 0
IsWhyNotBegun C None refusal = refusal ≡ refusals.Memory
IsWhyNotBegun C (Some text) refusal = (fault : CarryFault) × IsWhyNotCarried C text fault × (refusal ≡ carry_refusal fault)

-- ---- with a log beside it

-- the text, and nothing where there is none
abbrev pub text_or_nothing : Option (List ℕ) → List ℕ
text_or_nothing None = []
text_or_nothing (Some text) = text

-- the text, and that of a journal without an entry where there is none
abbrev pub saved_or_none : Option (List ℕ) → List ℕ
saved_or_none None = codes "ilp-journal 1\nend 0\n"
saved_or_none (Some text) = text

-- the log goes on from this text
abbrev pub GoesOn : PlainLogText → Option (List ℕ) → Type 0
GoesOn log text = log.digest ≡ sha256 (text_or_nothing text)

-- how many lines a text has
abbrev pub line_count : List ℕ → ℕ
line_count text = count_by (λ (octet : ℕ). octet == 10) text

-- There is a text, and it has all that the log has: its lines, and as many entries as the log goes on from. Beside those of entries
-- a journal has a first line and a last.
abbrev pub HasLog : PlainLogText → Option (List ℕ) → Type 0
HasLog log None = ⊥
HasLog log (Some text) = IsIn log text × (log.count + 2 ≤ line_count text)

-- Where the log goes on from the text, the book that goes on with its lines; else that of the text, which then has all that the log
-- has.
abbrev pub BeginsWithLog : Configuration → Option (List ℕ) → PlainLogText → ℤ → PlainBook → Type 0
BeginsWithLog C text log now book =
    (GoesOn log text × IsRecovered C (saved_or_none text) (text_of log.lines) now book) ⊎
    ((¬ GoesOn log text) × HasLog log text × BeginsWith C text now book)

-- the number of a logged line in the log's file, where it stands behind the two lines of the head; and at most the greatest one
abbrev pub in_log : ℕ → ℕ
in_log line = min (line + 2) (2 ^ 64 - 1)

-- the refusal that names a fault
abbrev pub recover_refusal : RecoverFault → Refusal
recover_refusal (recover_fault.BadJournalText line) = refusals.BadJournalText line
recover_refusal (recover_fault.BadLogLine line) = refusals.BadJournalText (in_log line)
recover_refusal (recover_fault.Unlawful entry rule) = refusals.Unlawful entry
recover_refusal recover_fault.Memory = refusals.Memory

-- the refusal names why text and lines are not recovered
abbrev pub IsWhyNotRecoveredBy : Configuration → List ℕ → List ℕ → Refusal → Type 0
IsWhyNotRecoveredBy C saved lines refusal = (fault : RecoverFault) × IsWhyNotRecovered C saved lines fault × (refusal ≡ recover_refusal fault)

-- why there is no book of a text and a log: the log is of neither kind; or it is of one, and there is no book for that reason
abbrev pub IsWhyNotBegunWithLog : Configuration → Option (List ℕ) → PlainLogText → Refusal → Type 0
IsWhyNotBegunWithLog C text log refusal =
    (GoesOn log text × IsWhyNotRecoveredBy C (saved_or_none text) (text_of log.lines) refusal) ⊎
    ((¬ GoesOn log text) × HasLog log text × IsWhyNotBegun C text refusal) ⊎
    ((¬ GoesOn log text) × (¬ HasLog log text) × (refusal ≡ refusals.JournalUnread))

-- the refusal of a log whose head is bad: by the line of its file
abbrev pub head_refusal : BadHead → Refusal
head_refusal First = refusals.BadJournalText 1
head_refusal Second = refusals.BadJournalText 2

-- The book of what is found: of a journal's text and the octets of a log, where there are such.
abbrev pub BeginsBy : Configuration → Option (List ℕ) → Option (List ℕ) → ℤ → PlainBook → Type 0
BeginsBy C text None now book = BeginsWith C text now book
BeginsBy C text (Some octets) now book = (log : PlainLogText) × IsLogText octets log × BeginsWithLog C text log now book

-- and why there is none
abbrev pub IsWhyNotBegunBy : Configuration → Option (List ℕ) → Option (List ℕ) → Refusal → Type 0
IsWhyNotBegunBy C text None refusal = IsWhyNotBegun C text refusal
IsWhyNotBegunBy C text (Some octets) refusal =
    ((bad : BadHead) × IsBadHead octets bad × (refusal ≡ head_refusal bad)) ⊎
    ((log : PlainLogText) × IsLogText octets log × IsWhyNotBegunWithLog C text log refusal)
