use mir.Syntax.{w64}
use mathlib.Core.Logic.{inr}
use Rattle.std.proofs.Common.{◌≤◌, ◌+◌, ◌∙◌, ℤ, Some, IfOk, sym, subst, arith}
use Rattle.std.proofs.lemmas.Bool.{false≢true}
use Rattle.std.proofs.lemmas.Int.{to_z-of_z}
use Rattle.std.proofs.lemmas.Result.{IfOk-weaker}
use Rattle.ilp_book.specs.Carry.{IsCarriedOver}
use Rattle.ilp_starting.specs.Beginning.{BeginsWithLog, line_count}
use Rattle.ilp_starting.specs.declared.carrying.Carried.{Carried}
use Rattle.ilp_starting.proofs.carrying.book_beside.Goals as goal

-- The log doesn't go on from this text, which has all that it has.
pub returns-then-line_count-from-clause-begins : goal.returns-then-line_count-from-clause-begins
returns-then-line_count-from-clause-begins c =
    let long : c.args.log.now.count + 2 ≤ line_count c.args.text.now = omega (arith, c.if-line_count-from.true, c.line_count.ensures, c.count.ensures, c.from.ensures) in
    let carried = subst (λ (n : ℤ). IfOk c.carried_book.result (λ (r : Carried). IsCarriedOver c.args.config.now c.args.text.now n r.book)) (to_z-of_z w64 c.args.now c.ranges.now) c.carried_book.ensures.begins in
    IfOk-weaker c.carried_book.result (λ (r : Carried). IsCarriedOver c.args.config.now c.args.text.now c.args.now r.book) (λ (r : Carried). BeginsWithLog c.args.config.now (Some c.args.text.now) c.args.log.now c.args.now r.book)
    (λ r is. inr (λ goes. false≢true (sym c.if-is_of.false ∙ c.is_of.ensures.1 goes), (c.is_in.ensures.0 c.if-is_in.true, long), is)) carried
