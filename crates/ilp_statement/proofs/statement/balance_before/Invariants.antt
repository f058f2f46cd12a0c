use Rattle.std.proofs.Common.{◌≡◌}
use Rattle.std.specs.Prelude.{take}
use Rattle.ilp_journal.specs.Balance.{balance}
use Rattle.ilp_statement.specs.Statement.{IsOfAmounts}
use Rattle.ilp_statement.proofs.statement.balance_before.Given as goal

-- It is the balance of the entries so far.
abbrev pub invariant-loop-number : goal.invariant-loop-number
invariant-loop-number g l = (l.balance ≡ balance (take l.number l.book.entries) l.peer) × IsOfAmounts l.number l.balance
