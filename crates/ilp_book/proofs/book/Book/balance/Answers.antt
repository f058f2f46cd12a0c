use Rattle.std.proofs.Common.{ℕ, subst}
use Rattle.std.specs.Prelude.{◌≤ℤ◌}
use Rattle.ilp_accounts.specs.Configuration.{peer_at}
use Rattle.ilp_journal.specs.Balance.{balance}
use Rattle.ilp_rules.specs.Book.{PlainBook}
use Rattle.ilp_rules.specs.Configured.{IsKnown}
use Rattle.ilp_rules.specs.Parts.{book_of}
use Rattle.ilp_rules.proofs.LawfulGrowth.{limits_now}
use Rattle.ilp_book.proofs.book.Book.balance.Goals as goal

-- a lawful book is within its limits
pub returns-clause-least : goal.returns-clause-least
returns-clause-least g c =
    let Least : PlainBook → Type 0 = λ b. (p : ℕ) → IsKnown b.config p → (peer_at b.config p).least ≤ℤ balance b.entries p in
    subst Least c.self.view_is (limits_now (book_of c.self.inside.config c.self.inside.period c.self.inside.base c.self.inside.journal) c.self.invariant.0.lawful).least
