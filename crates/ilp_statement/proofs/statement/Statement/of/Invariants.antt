use Rattle.std.proofs.Common.{◌≡◌, ◌≤◌}
use Rattle.std.specs.Prelude.{take}
use Rattle.ilp_journal.specs.Balance.{balance}
use Rattle.ilp_statement.specs.Statement.{lines_of, IsOfAmounts}
use Rattle.ilp_statement.proofs.statement.Statement.of.Given as goal

-- The balance of the entries so far, and the lines of the peer's among them.
abbrev pub invariant-loop-number : goal.invariant-loop-number
invariant-loop-number g l = (l.first ≤ l.number) × (l.opening ≡ balance (take l.first l.book.entries) l.peer) × (l.balance ≡ balance (take l.number l.book.entries) l.peer)
    × IsOfAmounts l.number l.balance × (l.lines.items ≡ lines_of l.book.entries l.peer l.first l.number)
