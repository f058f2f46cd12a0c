use Rattle.std.proofs.Common.{Option, w64, IfSome, rules, refl, sym, ap, subst}
use Rattle.std.specs.Prelude.{FitsSigned}
use Rattle.std.proofs.lemmas.Int.{to_z-of_z}
use Rattle.ilp_journal.specs.declared.entry.Entry.{Entry}
use Rattle.ilp_journal.specs.declared.entry.What.{What}
use Rattle.ilp_journal.specs.declared.entry.Credited.{Credited}
use Rattle.ilp_rules.specs.Configured.{IsKnown}
use Rattle.ilp_next_period.specs.NextPeriod.{ComesNext, next_credit}
use Rattle.ilp_next_period.proofs.NextEntries.{credit_placed, credit_unplaced, no_credit, stays}
use Rattle.ilp_next_period.proofs.ending_period.EndingPeriod.bring_credit.Goals as goal

-- no credit has the number
pub returns-in_default-clause-ok : goal.returns-in_default-clause-ok
returns-in_default-clause-ok g c =
    stays c.args.self.now c.args.config.now c.args.now (next_credit c.args.self.now c.args.config.now c.args.number) c.args.next.now
    (no_credit c.args.self.now c.args.config.now c.args.number (sym c.in_default.ensures.value))

-- its peer is known
pub place_in-requires : goal.place_in-requires
place_in-requires g c =
    subst (λ (o : Option Credited). IfSome o (λ (d : Credited). IsKnown c.args.self.now.config d.peer)) (sym c.in-Some.ensures.value) c.in-Some.ensures.known

-- and has no place in the next configuration
pub returns-in_default-place_in-clause-ok : goal.returns-in_default-place_in-clause-ok
returns-in_default-place_in-clause-ok g c =
    stays c.args.self.now c.args.config.now c.args.now (next_credit c.args.self.now c.args.config.now c.args.number) c.args.next.now
    (credit_unplaced c.args.self.now c.args.config.now c.args.number c.in-Some.credit.now (sym c.in-Some.ensures.value) (sym c.in_default-place_in.ensures.place))

-- or it has one: then the credit comes next
pub take_next-requires-clause-left : goal.take_next-requires-clause-left
take_next-requires-clause-left g c =
    let fits : FitsSigned w64 c.args.now = search rules in
    rw (c.in_ok-entry.ensures, to_z-of_z w64 c.args.now fits)
    (subst (λ (o : Option What). ComesNext c.args.self.now c.args.config.now c.args.now o c.args.next.now)
    (credit_placed c.args.self.now c.args.config.now c.args.number c.in-Some.credit.now c.in-Some-place_in.place (sym c.in-Some.ensures.value) (sym c.in-Some-place_in.ensures.place))
    c.requires.left)

pub take_next-requires-clause-room : goal.take_next-requires-clause-room
take_next-requires-clause-room g c = rw c.in_ok-entry.ensures refl

pub returns-clause-ok : goal.returns-clause-ok
returns-clause-ok g c =
    let fits : FitsSigned w64 c.args.now = search rules in
    rw (
      credit_placed c.args.self.now c.args.config.now c.args.number c.in-Some.credit.now c.in-Some-place_in.place (sym c.in-Some.ensures.value) (sym c.in-Some-place_in.ensures.place),
      sym (ap (λ (e : Entry). e.what) c.in_ok-entry.ensures),
      sym (to_z-of_z w64 c.args.now fits),
    ) c.take_next.ensures.ok

pub returns-clause-err : goal.returns-clause-err
returns-clause-err g c =
    let fits : FitsSigned w64 c.args.now = search rules in
    rw (sym (to_z-of_z w64 c.args.now fits)) c.take_next.ensures.err
