use Rattle.std.proofs.Common.{rules, sym, ◌∙◌, to_z, of_z, to_z-of_z}
use Rattle.std.specs.Prelude.{FitsSigned, Ok, Err}
use Rattle.std.specs.Int.{w64}
use Rattle.ilp_rules.specs.Book.{by}
use Rattle.ilp_book.proofs.AnswerSteps.{answer_keeps_at}
use Rattle.ilp_book.proofs.book.Book.answer.Goals as goal

-- a fulfillment is lawful
pub close-entry-requires-clause-lawful : goal.close-entry-requires-clause-lawful
close-entry-requires-clause-lawful g c =
    let fits : FitsSigned w64 c.moment_at-moment.result = search rules in
    answer_keeps_at c.args.self.now (by c.args.actor (to_z w64 (of_z w64 c.args.now))) c.args.number c.args.reply c.in-Some.hold (to_z w64 (of_z w64 c.moment_at-moment.result)) (Ok c.in-Ok.preimage)
    c.in-Some.ensures.lawful (sym c.in-Some.ensures.value) (to_z-of_z fits ∙ c.moment_at-moment.ensures.moment) c.in-Ok.ensures

-- a release is lawful
pub close-entry-requires-in-Err-clause-lawful : goal.close-entry-requires-in-Err-clause-lawful
close-entry-requires-in-Err-clause-lawful g c =
    let fits : FitsSigned w64 c.moment_at-moment.result = search rules in
    answer_keeps_at c.args.self.now (by c.args.actor (to_z w64 (of_z w64 c.args.now))) c.args.number c.args.reply c.in-Some.hold (to_z w64 (of_z w64 c.moment_at-moment.result)) (Err c.in-Err.cause)
    c.in-Some.ensures.lawful (sym c.in-Some.ensures.value) (to_z-of_z fits ∙ c.moment_at-moment.ensures.moment) c.in-Err.ensures
