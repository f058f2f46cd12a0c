use Rattle.std.proofs.Common.{◌∙◌, arith}
use Rattle.ilp_journal.proofs.Bases.{base_zero}
use Rattle.ilp_rules.proofs.Keeping.{parts_new}
use Rattle.ilp_book.proofs.book.Book.new.Goals as goal

pub invariant_of-result : goal.invariant_of-result
invariant_of-result g c =
    (rw c.in_ok-copy.ensures (parts_new c.args.config.now 0 0 c.in_ok-journal.journal c.in_ok-tables.tables.tallies c.in_ok-tables.tables.holds c.in_ok-tables.tables.keys c.journal.ensures.valid (omega arith) c.in_ok-journal.ensures.empty (c.in_ok-journal.ensures.limit ∙ c.journal.ensures.value) c.in_ok-tables.ensures), base_zero c.in_ok-journal.journal.entries)
