use Rattle.std.proofs.Common.{◌≡◌, true, false, Some, refl, sym, ap, ◌∙◌, subst, rules}
use Rattle.std.specs.Prelude.{FitsSigned}
use Rattle.std.specs.Int.{w64}
use Rattle.std.proofs.lemmas.Int.{to_z-of_z}
use Rattle.ilp_accounts.specs.Valid.{IsValid}
use Rattle.ilp_journal.specs.Journal.{open_hold_at}
use Rattle.ilp_rules.specs.Book.{PlainBook}
use Rattle.ilp_rules.specs.Lawful.{IsLawful}
use Rattle.ilp_rules.proofs.Ending.{end_keeps, end_keeps_at}
use Rattle.ilp_rules.proofs.carrying.Carrying.end_hold.Goals as goal
use Rattle.ilp_rules.proofs.carrying.Carrying.end_hold.Goals.{then-hold-moment, else-hold-moment}

pub close-requires : goal.close-requires
close-requires g c =
    let book = c.args.self.now in
    let h = c.in-Some.hold in
    let deadline_fits : FitsSigned w64 h.deadline = search rules in
    let moment_fits : FitsSigned w64 c.args.moment = search rules in
    let deadline = to_z-of_z w64 h.deadline deadline_fits in
    let moment = to_z-of_z w64 c.args.moment moment_fits in
    let valid : IsValid book.config = subst (λ (b : PlainBook). IsValid b.config) c.self.view_is c.self.invariant.valid in
    let lawful : IsLawful book = subst IsLawful c.self.view_is c.self.invariant.lawful in
    let stands : open_hold_at book.entries c.args.number ≡ Some h =
    sym (ap (λ (b : PlainBook). open_hold_at b.entries c.args.number) c.self.view_is) ∙ (sym c.open_hold_at.ensures ∙ c.in-Some.is) in
    let ends = end_keeps book c.args.moment c.args.number h valid lawful (ap (λ (b : PlainBook). b.base) (sym c.self.view_is)) stands c.requires.later c.requires.first c.requires.last in
    record {
      ends = refl;
      lawful = elim c.if-hold-moment.branch [
        | then-hold-moment w ↦ end_keeps_at book c.args.moment _ _ c.args.number h c.if-hold-moment.cause true moment deadline w.if-hold-moment.true w.cause-is ends
        | else-hold-moment w ↦ end_keeps_at book c.args.moment _ _ c.args.number h c.if-hold-moment.cause false moment deadline w.if-hold-moment.false w.cause-is ends
      ];
    }
