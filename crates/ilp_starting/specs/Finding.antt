-- What book begins of all that a start finds, and why none does.
use Rattle.std.specs.Prelude.{◌≡◌, ◌⊎◌, ℕ, ℤ, min, List, length, Option}
use Rattle.ilp_accounts.specs.Configuration.{Configuration}
use Rattle.ilp_book.specs.Book.{PlainBook}
use Rattle.ilp_refusals.specs.declared.refusal.Refusal.{Refusal}
use Rattle.ilp_starting.specs.Beginning.{BeginsBy, IsWhyNotBegunBy}
use Rattle.ilp_starting.specs.Remembering.{IsWhyNotKept}
use Rattle.ilp_starting.specs.Sources.{IsSource, written_by}
use Rattle.ilp_starting.specs.declared.carrying.Source.{Source}

-- The book of a journal's text and of the octets of a log, where there are such, at some time.
abbrev pub BeginsOnce : Configuration → Option (List ℕ) → Option (List ℕ) → PlainBook → Type 0
BeginsOnce C text log book = (now : ℤ) × BeginsBy C text log now book

-- There is one, but a start by it is refused: of what is remembered of the run something was changed, or memory was short.
abbrev pub IsWhyNotTaken : Configuration → Option (List ℕ) → Option (List ℕ) → List ℕ → Refusal → Type 0
IsWhyNotTaken C text log kept refusal =
    (book : PlainBook) × (source : Source) × BeginsOnce C text log book × IsSource text log source ×
    IsWhyNotKept book.config book.entries source log kept refusal

-- Why no book begins: there is none; or there is one that isn't taken.
abbrev pub IsWhyNotFound : Configuration → Option (List ℕ) → Option (List ℕ) → List ℕ → Refusal → Type 0
IsWhyNotFound C text log kept refusal = IsWhyNotBegunBy C text log refusal ⊎ IsWhyNotTaken C text log kept refusal

-- ---- of files, whose octets no clause can say

-- It is the book of some text and some log, where there are such, and its entries come from there.
abbrev pub BeginsOfSome : Configuration → PlainBook → Source → Type 0
BeginsOfSome C book source = (text log : Option (List ℕ)) × BeginsOnce C text log book × IsSource text log source

-- It is such a book, and so many of its entries stand in that text and that log.
abbrev pub IsWritten : Configuration → PlainBook → ℕ → Type 0
IsWritten C book written =
    (text log : Option (List ℕ)) × (source : Source) × BeginsOnce C text log book × IsSource text log source ×
    (written ≡ min (written_by source text) (length book.entries))
