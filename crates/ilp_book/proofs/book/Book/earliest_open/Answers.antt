use Rattle.std.proofs.Common.{sym, ap, ◌∙◌, refl}
use Rattle.ilp_rules.specs.Book.{PlainBook}
use Rattle.ilp_rules.specs.Open.{earliest}
use Rattle.ilp_next_period.proofs.OpenHolds.{none_open}
use Rattle.ilp_book.proofs.Earliest.{earliest_none, first_is_earliest, first_stands}
use Rattle.ilp_book.proofs.book.Book.earliest_open.Goals as goal

-- where the table is empty none is open
pub returns-in_err-number-clause-value : goal.returns-in_err-number-clause-value
returns-in_err-number-clause-value g c =
    let j = c.self.inside.journal.entries in
    c.from_residual.ensures ∙ sym (earliest_none j (none_open j c.self.inside.tables.holds.map c.self.invariant.0.tabled.open_holds (c.in_err-number.ensures.none.0 refl)))
    ∙ ap (λ (b : PlainBook). earliest b.entries) c.self.view_is

-- the hold that the table has first stands in the journal
pub returns-in_err-hold-clause-value : goal.returns-in_err-hold-clause-value
returns-in_err-hold-clause-value g c =
    absurd (first_stands c.self.inside.journal.entries c.self.inside.tables.holds.map c.in_ok-number.number c.in_ok-number.field-0-0
    c.self.invariant.0.tabled.open_holds c.in_ok-number.ensures.member (sym c.in_err-hold.ensures))

-- and comes first
pub returns-clause-value : goal.returns-clause-value
returns-clause-value g c =
    sym (first_is_earliest c.self.inside.journal.entries c.self.inside.tables.holds.map c.in_ok-number.number c.in_ok-number.field-0-0 c.in_ok-hold.hold
    c.self.invariant.0.tabled.open_holds c.in_ok-number.ensures.member c.in_ok-number.ensures.least (sym c.in_ok-hold.ensures))
    ∙ ap (λ (b : PlainBook). earliest b.entries) c.self.view_is
