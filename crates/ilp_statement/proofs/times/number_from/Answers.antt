use Rattle.std.proofs.Common.{◌≡◌, ◌+◌, ℤ, sym, subst, to_z, of_z, rules}
use Rattle.std.specs.Prelude.{FitsSigned, int_le}
use Rattle.std.specs.Int.{w64}
use Rattle.std.proofs.lemmas.Int.{to_z-of_z}
use Rattle.ilp_order.specs.Places.{passes_at}
use Rattle.ilp_journal.specs.declared.entry.Entry.{Entry}
use Rattle.ilp_statement.proofs.Sought.{IsSoughtFrom, sought_on, sought_found}
use Rattle.ilp_statement.proofs.times.number_from.Goals as goal

-- It is the first that is late enough.
pub returns-then-is_from-clause-number : goal.returns-then-is_from-clause-number
returns-then-is_from-clause-number g c =
    let fits : FitsSigned w64 c.args.moment = search rules in
    let same : to_z w64 (of_z w64 c.args.moment) ≡ c.args.moment = to_z-of_z w64 c.args.moment fits in
    sought_found c.args.book.now.entries c.args.moment c.loop-number.number c.is_from.result (search rules) (subst (λ (m : ℤ). c.is_from.result ≡ passes_at (λ (e : Entry). int_le m e.moment) c.args.book.now.entries c.loop-number.number) same c.is_from.ensures) c.if-is_from.true
    (subst (λ (m : ℤ). IsSoughtFrom c.args.book.now.entries m c.loop-number.number) same c.loop-number.invariant)

-- This one is not.
pub loop-number-preserved : goal.loop-number-preserved
loop-number-preserved g c =
    let fits : FitsSigned w64 c.args.moment = search rules in
    let same : to_z w64 (of_z w64 c.args.moment) ≡ c.args.moment = to_z-of_z w64 c.args.moment fits in
    let sought = subst (λ (m : ℤ). IsSoughtFrom c.args.book.now.entries m c.loop-number.number) same c.loop-number.invariant in
    subst (λ (m : ℤ). IsSoughtFrom c.args.book.now.entries m (c.loop-number.number + 1)) (sym same)
    (sought_on c.args.book.now.entries c.args.moment c.loop-number.number c.is_from.result (search rules) (subst (λ (m : ℤ). c.is_from.result ≡ passes_at (λ (e : Entry). int_le m e.moment) c.args.book.now.entries c.loop-number.number) same c.is_from.ensures) c.if-is_from.false sought)
