use Rattle.std.proofs.Common.{ℕ, ◌+◌, ap, sym, ◌∙◌, subst, to_z, of_z, rules, arith}
use Rattle.std.specs.Prelude.{FitsSigned}
use Rattle.std.specs.Int.{w128}
use Rattle.std.proofs.lemmas.Int.{ints, to_z-of_z}
use Rattle.ilp_statement.specs.declared.line.Line.{Line}
use Rattle.ilp_statement.specs.Statement.{IsOfAmounts}
use Rattle.ilp_statement.proofs.Balances.{balance_of_none}
use Rattle.ilp_statement.proofs.statement.balance_before.Goals as goal

-- No entry has moved it yet.
pub loop-number-init : goal.loop-number-init
loop-number-init g c = (sym (balance_of_none c.args.peer), (omega (arith, ints), omega (arith, ints)))

-- The next entry moves it by its line.
pub loop-number-preserved : goal.loop-number-preserved
loop-number-preserved g c =
    let fits : FitsSigned w128 c.line_behind-balance.result.balance = search rules in
    let same = to_z-of_z w128 c.line_behind-balance.result.balance fits in
    let line = ap (λ (l : Line). l.balance) c.line_behind-balance.ensures.line in
    (same ∙ line, subst (IsOfAmounts (c.loop-number.number + 1)) (sym same) c.line_behind-balance.ensures.within)
