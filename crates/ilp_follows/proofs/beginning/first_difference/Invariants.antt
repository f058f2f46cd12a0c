use Rattle.std.proofs.Common.{ℕ, ◌<◌}
use Rattle.std.specs.Prelude.{IsTrue}
use Rattle.ilp_journal_text.specs.Fields.{octets_of}
use Rattle.ilp_follows.specs.Follows.{stands_at}
use Rattle.ilp_follows.proofs.beginning.first_difference.Given as goal

-- each entry so far stands where it is to stand
abbrev pub invariant-loop-number : goal.invariant-loop-number
invariant-loop-number l = (n : ℕ) → n < l.number → IsTrue (stands_at l.config l.head (octets_of l.lines) n)
