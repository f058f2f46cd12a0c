-- How a book goes on from one desk to the next, and what of it was brought forward.
use Rattle.std.specs.Prelude.{ℕ, ◌<◌, ◌≤◌, length, slice_get, IsTrue, IsFalse, IfSome, IsSomeAnd}
use Rattle.ilp_journal.specs.declared.entry.Entry.{Entry}
use Rattle.ilp_journal.specs.Journal.{Entries}
use Rattle.ilp_journal.specs.BroughtForward.{is_brought_forward}
use Rattle.ilp_rules.specs.Book.{PlainBook, with_base}

-- the book from which a desk goes on: it begins with all that this one has
abbrev pub reopened : PlainBook → PlainBook
reopened book = with_base book (length book.entries)

-- The first n entries of a journal, and no more of them, were brought forward.
pub record IsHead (j : Entries) (n : ℕ) : Type 0 where
  pub within : n ≤ length j
  pub front : (k : ℕ) → k < n → IsSomeAnd (slice_get j k) (λ (e : Entry). IsTrue (is_brought_forward e.what))
  pub behind : IfSome (slice_get j n) (λ (e : Entry). IsFalse (is_brought_forward e.what))
