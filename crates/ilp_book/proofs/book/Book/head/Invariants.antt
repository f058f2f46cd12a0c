use Rattle.std.proofs.Common.{ℕ, ◌<◌}
use Rattle.std.specs.Prelude.{slice_get, IsTrue, IsSomeAnd}
use Rattle.ilp_journal.specs.declared.entry.Entry.{Entry}
use Rattle.ilp_journal.specs.BroughtForward.{is_brought_forward}
use Rattle.ilp_book.proofs.book.Book.head.Given as goal

-- all entries so far were brought forward
abbrev pub invariant-loop-number : goal.invariant-loop-number
invariant-loop-number g l = (k : ℕ) → k < l.number → IsSomeAnd (slice_get l.self.entries k) (λ (e : Entry). IsTrue (is_brought_forward e.what))
