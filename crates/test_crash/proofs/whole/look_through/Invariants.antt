use Rattle.std.proofs.Common.{ℕ, ◌<◌, get_or}
use Rattle.ilp_journal.specs.declared.entry.Entry.{Entry}
use Rattle.ilp_journal_text.specs.Reading.{IsTyped}
use Rattle.test_crash.proofs.whole.look_through.Given as goal

-- the entries so far are of their types
abbrev pub invariant-loop-number : goal.invariant-loop-number
invariant-loop-number l = (d : Entry) (k : ℕ) → k < l.number → IsTyped (get_or l.book.entries k d)
