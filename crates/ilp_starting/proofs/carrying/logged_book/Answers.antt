use denote.Bor.{Bor}
use mir.Syntax.{w64}
use Rattle.std.proofs.Common.{ℕ, ℤ, List, Option, Some, IfOk, sym, subst}
use Rattle.std.proofs.lemmas.Int.{to_z-of_z}
use Rattle.std.specs.Prelude.{option_map}
use Rattle.ilp_starting.specs.Beginning.{BeginsWithLog}
use Rattle.ilp_starting.specs.declared.carrying.Carried.{Carried}
use Rattle.ilp_starting.proofs.carrying.logged_book.Goals as goal

-- There is a text.
pub returns-in-Some-clause-begins : goal.returns-in-Some-clause-begins
returns-in-Some-clause-begins c =
    let begins = subst (λ (n : ℤ). IfOk c.book_beside.result (λ (r : Carried). BeginsWithLog c.args.config.now (Some c.in-Some.text.now) c.args.log.now n r.book)) (to_z-of_z w64 c.args.now c.ranges.now) c.book_beside.ensures.begins in
    subst (λ (t : Option (Bor (List ℕ))). IfOk c.book_beside.result (λ (r : Carried). BeginsWithLog c.args.config.now (option_map (λ b. b.now) t) c.args.log.now c.args.now r.book)) (sym c.in-Some.is) begins
