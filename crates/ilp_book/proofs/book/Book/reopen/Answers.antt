use Rattle.std.proofs.Common.{◌≡◌, ℕ, None, refl, sym, subst}
use Rattle.ilp_journal.specs.Journal.{open_hold_at, IsBase}
use Rattle.ilp_next_period.proofs.OpenHolds.{none_open}
use Rattle.ilp_rules.proofs.Ending.{closed_base}
use Rattle.ilp_book.proofs.Reopening.{parts_reopened}
use Rattle.ilp_book.proofs.book.Book.reopen.Goals as goal

-- where the table is empty no hold is open
pub invariant_of-self : goal.invariant_of-self
invariant_of-self g c =
    let i = c.self.inside in
    let j = i.journal.entries in
    let none : (n : ℕ) → open_hold_at j n ≡ None = none_open j i.tables.holds.map c.self.invariant.0.tabled.open_holds (c.in_default.ensures.none.0 refl) in (
      parts_reopened i.config i.period i.base c.len-base.result i.journal i.tables.tallies c.end_totals.new.self i.tables.holds i.tables.keys c.self.invariant.0
          c.len-base.ensures.count c.end_totals.ensures,
      subst (IsBase j) (sym c.len-base.ensures.count) (closed_base j none),
    )
