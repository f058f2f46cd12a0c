use Rattle.std.proofs.Common.{rules, sym, ◌∙◌, arith, to_z, of_z, to_z-of_z}
use Rattle.std.specs.Prelude.{FitsSigned, ◌≤ℤ◌}
use Rattle.std.specs.Int.{w64}
use Rattle.std.proofs.lemmas.Int.{ints}
use Rattle.ilp_rules.specs.Book.{by}
use Rattle.ilp_book.proofs.Earliest.{due_at}
use Rattle.ilp_book.proofs.AnswerSteps.{expire_keeps_at}
use Rattle.ilp_book.proofs.book.Book.expire_one.Goals as goal

-- the release of what is due is lawful
pub close-requires-clause-lawful : goal.close-requires-clause-lawful
close-requires-clause-lawful g c =
    let book = c.args.self.now in
    let fits : FitsSigned w64 c.moment_at-moment.result = search rules in
    let back = to_z-of_z fits in
    let late : c.in_ok-number.hold.deadline ≤ℤ to_z w64 (of_z w64 c.moment_at-moment.result) = rw back (omega (arith, ints, c.if-moment-hold.false)) in
    expire_keeps_at book (by c.args.actor (to_z w64 (of_z w64 c.args.now))) c.in_ok-number.number (to_z w64 (of_z w64 c.moment_at-moment.result)) c.in_ok-number.ensures.lawful
    (back ∙ c.moment_at-moment.ensures.moment)
    (due_at book.entries (to_z w64 (of_z w64 c.moment_at-moment.result)) c.in_ok-number.number c.in_ok-number.hold (sym c.in_ok-number.ensures.value) late)
