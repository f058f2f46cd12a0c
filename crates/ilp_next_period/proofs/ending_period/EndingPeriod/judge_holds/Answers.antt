use Rattle.std.proofs.Common.{◌≡◌, ℕ, None, refl, subst}
use Rattle.std.specs.Prelude.{IsSome}
use Rattle.ilp_journal.specs.Journal.{open_hold_at}
use Rattle.ilp_rules.specs.Book.{PlainBook}
use Rattle.ilp_next_period.proofs.OpenHolds.{listed_open, none_open}
use Rattle.ilp_next_period.proofs.ending_period.EndingPeriod.judge_holds.Goals as goal

pub returns-in-Some-clause-err : goal.returns-in-Some-clause-err
returns-in-Some-clause-err g c = λ next now.
    subst (λ (b : PlainBook). IsSome (open_hold_at b.entries c.in-Some.hold)) c.self.view_is
    (listed_open c.self.inside.journal.now.entries c.self.inside.tables.now.holds.map c.in-Some.hold c.in-Some.field-0-0 c.self.invariant.tabled.open_holds c.in-Some.ensures.member)

pub returns-in-None-clause-closed : goal.returns-in-None-clause-closed
returns-in-None-clause-closed g c =
    subst (λ (b : PlainBook). (n : ℕ) → open_hold_at b.entries n ≡ None) c.self.view_is
    (none_open c.self.inside.journal.now.entries c.self.inside.tables.now.holds.map c.self.invariant.tabled.open_holds (c.in-None.ensures.none.0 refl))
