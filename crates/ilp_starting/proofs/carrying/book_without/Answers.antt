use mir.Syntax.{w64}
use mathlib.Core.Logic.{inl}
use Rattle.std.proofs.Common.{ℤ, None, IfOk, codes, subst}
use Rattle.std.proofs.lemmas.Int.{to_z-of_z}
use Rattle.std.proofs.lemmas.Result.{IfOk-weaker}
use Rattle.ilp_line_file.specs.Text.{text_of}
use Rattle.ilp_book.specs.Recover.{IsRecovered}
use Rattle.ilp_starting.specs.Beginning.{BeginsWithLog}
use Rattle.ilp_starting.specs.declared.carrying.Carried.{Carried}
use Rattle.ilp_starting.proofs.carrying.book_without.Goals as goal

-- The log goes on from nothing.
pub returns-then-is_of-clause-begins : goal.returns-then-is_of-clause-begins
returns-then-is_of-clause-begins c =
    let recovered = subst (λ (n : ℤ). IfOk c.recovered_book.result (λ (r : Carried). IsRecovered c.args.config.now (codes "ilp-journal 1\nend 0\n") (text_of c.args.log.now.lines) n r.book)) (to_z-of_z w64 c.args.now c.ranges.now) c.recovered_book.ensures.begins in
    IfOk-weaker c.recovered_book.result (λ (r : Carried). IsRecovered c.args.config.now (codes "ilp-journal 1\nend 0\n") (text_of c.args.log.now.lines) c.args.now r.book) (λ (r : Carried). BeginsWithLog c.args.config.now None c.args.log.now c.args.now r.book)
    (λ r is. inl (c.is_of.ensures.0 c.if-is_of.true, is)) recovered
