use Rattle.std.proofs.Common.{sym, ◌∙◌, rules, to_z, of_z, to_z-of_z}
use Rattle.std.specs.Prelude.{FitsSigned}
use Rattle.std.specs.Int.{w64}
use Rattle.ilp_rules.specs.Book.{by}
use Rattle.ilp_book.proofs.SettleSteps.{close_keeps_at}
use Rattle.ilp_book.proofs.book.Book.settle_close.Goals as goal

-- a closing of what is open is lawful
pub close-requires-clause-lawful : goal.close-requires-clause-lawful
close-requires-clause-lawful g c =
    let fits : FitsSigned w64 c.moment_at-moment.result = search rules in
    close_keeps_at c.args.self.now (by c.args.actor (to_z w64 (of_z w64 c.args.now))) c.args.number c.args.verdict c.in-Some._ask (to_z w64 (of_z w64 c.moment_at-moment.result)) c.closing-what.result
    c.in-Some.ensures.lawful (sym c.in-Some.ensures.value) (to_z-of_z fits ∙ c.moment_at-moment.ensures.moment) c.closing-what.ensures
