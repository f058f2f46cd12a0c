-- Which texts are carried over from one run of the connector to the next.
use Rattle.std.specs.Prelude.{◌≡◌, ℕ, ◌+◌, ◌<◌, ℤ, List, length, take, slice_get, IsSomeAnd, ⊤}
use Rattle.ilp_accounts.specs.Configuration.{Configuration}
use Rattle.ilp_journal.specs.declared.entry.Entry.{Entry}
use Rattle.ilp_journal.specs.Journal.{Entries}
use Rattle.ilp_journal_text.specs.Reading.{IsTextOf, IsFirstBadLine}
use Rattle.ilp_rules.specs.declared.fault.CarryFault.{CarryFault}
use Rattle.ilp_rules.specs.declared.fault.CarryFault.TheVariants.{BadJournalText, Unlawful, Memory}
use Rattle.ilp_rules.specs.declared.rule.BrokenRule.{BrokenRule}
use Rattle.ilp_rules.specs.Broken.{Breaks}
use Rattle.ilp_rules.specs.Book.{PlainBook, with_entries}
use Rattle.ilp_rules.specs.Carried.{begun_with, carried}
use Rattle.ilp_rules.specs.Lawful.{IsLawful}

-- The text is that of a lawful journal, in which holds may be open, and this is the book of its period that begins with it.
pub record IsCarriedOver (C : Configuration) (text : List ℕ) (now : ℤ) (book : PlainBook) : Type 0 where
  pub period : ℕ
  pub entries : Entries
  pub written : IsTextOf C period entries text
  pub lawful : IsLawful (begun_with C period entries)
  pub begins : book ≡ carried C period entries now

-- The entries before the number n are lawful, and with that one they aren't: it breaks the rule.
pub record IsFirstUnlawful (C : Configuration) (period : ℕ) (entries : Entries) (n : ℕ) (rule : BrokenRule) : Type 0 where
  pub within : n < length entries
  pub lawful : IsLawful (with_entries (begun_with C period entries) (take n entries))
  pub unlawful : IsLawful (with_entries (begun_with C period entries) (take (n + 1) entries)) → ⊥
  pub broken : IsSomeAnd (slice_get entries n) (λ (e : Entry). Breaks C period (take n entries) e rule)

-- The fault names the first bad line of a text that is no journal's, or the first unlawful entry of one that is, with a rule that it breaks.
abbrev pub IsWhyNotCarried : Configuration → List ℕ → CarryFault → Type 0
IsWhyNotCarried C text (BadJournalText line) = IsFirstBadLine C text line
IsWhyNotCarried C text (Unlawful entry rule) =
    (period : ℕ) × (entries : Entries) × IsTextOf C period entries text × IsFirstUnlawful C period entries entry rule
IsWhyNotCarried C text Memory = ⊤
