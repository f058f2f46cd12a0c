-- How far entries were taken up. No public clause cites these words.
use Rattle.std.specs.Prelude.{◌≡◌, ℕ, ◌+◌, ◌<◌, length, take, slice_get, Result, Ok, Err, IsSomeAnd, ⊤}
use Rattle.ilp_accounts.specs.Configuration.{Configuration}
use Rattle.ilp_journal.specs.declared.entry.Entry.{Entry}
use Rattle.ilp_journal.specs.Journal.{Entries}
use Rattle.ilp_journal_text.specs.declared.reading.TextFault.{TextFault}
use Rattle.ilp_journal_text.specs.declared.reading.TextFault.TheVariants as text_fault
use Rattle.ilp_rules.specs.declared.fault.Stop.{Stop}
use Rattle.ilp_rules.specs.declared.fault.Stop.TheVariants.{Unlawful, Memory}
use Rattle.ilp_rules.specs.declared.rule.BrokenRule.{BrokenRule}
use Rattle.ilp_rules.specs.Broken.{Breaks}
use Rattle.ilp_rules.specs.Book.{PlainBook, with_entries, pushed}
use Rattle.ilp_rules.specs.Judging.{behind_all, carrying}
use Rattle.ilp_rules.specs.Lawful.{IsLawful}

-- a journal that is lawful stops being so with an entry that comes next, which breaks the rule
pub record IsStop (book : PlainBook) (e : Entry) (n : ℕ) (rule : BrokenRule) : Type 0 where
  pub number : n ≡ length book.entries
  pub below : n < behind_all
  pub lawful : IsLawful book
  pub unlawful : IsLawful (pushed book e) → ⊥
  pub broken : Breaks book.config book.period book.entries e rule

-- why an entry isn't taken up
abbrev pub StopsAt : PlainBook → Entry → Stop → Type 0
StopsAt book e (Unlawful n rule) = IsStop book e n rule
StopsAt book e Memory = ⊤

-- the entries before the number n are lawful, and with that one they aren't
pub record StopsBelow (C : Configuration) (period : ℕ) (entries : Entries) (n : ℕ) (rule : BrokenRule) : Type 0 where
  pub within : n < length entries
  pub below : n < behind_all
  pub lawful : IsLawful (with_entries (carrying C period) (take n entries))
  pub unlawful : IsLawful (with_entries (carrying C period) (take (n + 1) entries)) → ⊥
  pub broken : IsSomeAnd (slice_get entries n) (λ (e : Entry). Breaks C period (take n entries) e rule)

-- why not all entries were taken up
abbrev pub HasStopped : Configuration → ℕ → Entries → Stop → Type 0
HasStopped C period entries (Unlawful n rule) = StopsBelow C period entries n rule
HasStopped C period entries Memory = ⊤

-- the book of a period with these entries, or why it isn't
abbrev pub AreTakenUp : Configuration → ℕ → Entries → PlainBook → Result Unit Stop → Type 0
AreTakenUp C period entries book (Ok _) = book ≡ with_entries (carrying C period) entries
AreTakenUp C period entries book (Err stop) = (book.config ≡ C) × HasStopped C period entries stop

-- a fault names a bad line, or is want of memory
abbrev pub NamesLine : (ℕ → Type 0) → TextFault → Type 0
NamesLine IsBad (text_fault.BadLine line) = IsBad line
NamesLine IsBad text_fault.Memory = ⊤
