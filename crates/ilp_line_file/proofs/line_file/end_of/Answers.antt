use Rattle.std.proofs.Common.{◌≡◌, ◌+◌, ℕ, sym, subst, arith, rules}
use Rattle.ilp_line_file.proofs.Ending.{HasPassed, at_nul, at_end, feed_passes, octet_passes}
use Rattle.ilp_line_file.proofs.line_file.end_of.Goals as goal
use Rattle.ilp_line_file.proofs.line_file.end_of.Goals.{then-octet-eq10, else-octet-eq10}

pub returns-then-octet-eq0-clause-text : goal.returns-then-octet-eq0-clause-text
returns-then-octet-eq0-clause-text c = at_nul c.args.octets.now c.loop-at.end c.loop-at.at c.loop-at.invariant.1 (omega arith) (search rules)

pub returns-clause-text : goal.returns-clause-text
returns-clause-text c = at_end c.args.octets.now c.loop-at.end c.loop-at.at c.loop-at.invariant.1 (omega arith)

pub loop-at-preserved : goal.loop-at-preserved
loop-at-preserved c = elim c.if-octet-eq10.branch [
  | then-octet-eq10 w ↦
      let is : c.if-octet-eq10.end ≡ c.loop-at.at + 1 = search rules in
      let here = feed_passes c.args.octets.now c.loop-at.end c.loop-at.at c.loop-at.invariant.1 (omega arith) (search rules) in
      let P : ℕ → Type 0 = λ e. HasPassed c.args.octets.now e (c.loop-at.at + 1) in
      (omega arith, subst P (sym is) here)
  | else-octet-eq10 w ↦
      let is : c.if-octet-eq10.end ≡ c.loop-at.end = search rules in
      let here = octet_passes c.args.octets.now c.loop-at.end c.loop-at.at c.loop-at.invariant.1 (omega arith) (search rules) (search rules) in
      let P : ℕ → Type 0 = λ e. HasPassed c.args.octets.now e (c.loop-at.at + 1) in
      (omega (arith, c.loop-at.invariant.0), subst P (sym is) here)
]
