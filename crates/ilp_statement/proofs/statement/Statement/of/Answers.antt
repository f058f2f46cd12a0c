use Rattle.std.proofs.Common.{◌≡◌, ◌+◌, ◌<◌, ◌≤◌, [], ◌∷◌, ◌++◌, length, ap, sym, ◌∙◌, subst, to_z, of_z, rules, arith}
use Rattle.std.specs.Prelude.{FitsSigned}
use Rattle.std.specs.Int.{w128}
use Rattle.std.proofs.lemmas.Int.{to_z-of_z}
use Rattle.ilp_statement.specs.declared.line.Line.{Line}
use Rattle.ilp_statement.specs.Statement.{line_at, lines_of, IsOfAmounts}
use Rattle.ilp_statement.proofs.Lines.{listed_on, listed_past}
use Rattle.ilp_statement.proofs.statement.Statement.of.Goals as goal
use Rattle.ilp_statement.proofs.statement.Statement.of.Goals.{then-is_of+in_ok-push, else-is_of}

-- The next entry moves the balance by its line, which is listed where it is the peer's.
pub loop-number-preserved : goal.loop-number-preserved
loop-number-preserved g c =
    let j = c.args.book.now.entries in
    let n = c.loop-number.number in
    let opened : FitsSigned w128 c.balance_before-opening.result = search rules in
    let fits : FitsSigned w128 c.line_behind-line.result.balance = search rules in
    let same = to_z-of_z w128 c.line_behind-line.result.balance fits in
    let kept = c.loop-number.invariant in
    let below : n < length j = omega (arith, c.loop-number-test.true, c.requires.within) in
    let own : c.line_behind-line.result ≡ line_at j c.args.peer n = c.line_behind-line.ensures.line in
    let listed : c.loop-number.lines.items ≡ lines_of j c.args.peer c.args.first n = kept.4 in
    let lines : c.if-is_of.lines.items ≡ lines_of j c.args.peer c.args.first (n + 1) =
    elim c.if-is_of.branch [
      | then-is_of+in_ok-push w ↦
          ap (λ v. v.items) w.lines-is ∙ w.in_ok-push.ensures.items ∙ ap (λ l. c.loop-number.lines.items ++ l ∷ []) own
          ∙ listed_on j c.args.peer c.args.first n c.loop-number.lines.items kept.0 below listed (sym c.is_of.ensures ∙ w.if-is_of.true)
      | else-is_of w ↦
          ap (λ v. v.items) w.lines-is ∙ listed_past j c.args.peer c.args.first n c.loop-number.lines.items kept.0 below listed (sym c.is_of.ensures ∙ w.if-is_of.false)
    ] in (
      omega (arith, kept.0),
      to_z-of_z w128 c.balance_before-opening.result opened ∙ c.balance_before-opening.ensures.balance,
      same ∙ ap (λ (l : Line). l.balance) c.line_behind-line.ensures.line,
      subst (IsOfAmounts (n + 1)) (sym same) c.line_behind-line.ensures.within,
      lines,
    )
