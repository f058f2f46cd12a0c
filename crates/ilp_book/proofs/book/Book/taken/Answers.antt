use Rattle.std.proofs.Common.{◌+◌, ◌≤◌, length, arith, subst}
use Rattle.ilp_journal.specs.Journal.{open_count}
use Rattle.ilp_rules.specs.Book.{PlainBook}
use Rattle.ilp_rules.specs.Configured.{peer_assets}
use Rattle.ilp_rules.specs.Parts.{book_of}
use Rattle.ilp_rules.proofs.LawfulGrowth.{limits_now}
use Rattle.ilp_book.proofs.book.Book.taken.Goals as goal

-- a lawful book has room for whatever ends what is open
pub returns-clause-within : goal.returns-clause-within
returns-clause-within g c =
    let i = c.self.inside in
    let room = (limits_now (book_of i.config i.period i.base i.journal) c.self.invariant.0.lawful).room in
    let count = c.open_count.ensures (peer_assets i.config) i.base i.journal.entries c.self.invariant.0.tabled.tallied in
    subst (λ (b : PlainBook). c.from.result + c.from-2.result ≤ b.config.settings.journal) c.self.view_is
    (omega (arith, room, count, c.from.ensures, c.from-2.ensures, c.len.ensures.count))
