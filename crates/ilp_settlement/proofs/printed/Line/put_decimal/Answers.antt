use Rattle.std.proofs.Common.{ℕ, ◌+◌, ◌%◌, ◌/◌, ◌≡◌, ◌++◌, List, [], ◌∷◌, length, drop, ap, sym, ◌∙◌, arith}
use Rattle.std.specs.Fmt.{decimal}
use Rattle.std.proofs.lemmas.Fmt.{decimal_step, decimal_digit, length-decimal-le, decimal_nonempty}
use Rattle.std.proofs.lemmas.List.{length-append}
use mathlib.Core.List.{append_assoc}
use Rattle.ilp_settlement.proofs.printed.Line.put_decimal.Goals as goal

pub loop-rest-preserved : goal.loop-rest-preserved
loop-rest-preserved c =
    let rest = c.loop-rest.rest in
    let front = decimal (rest / 10) in
    let written = drop c.loop-rest.self.start c.loop-rest.self.octets in
    let step : decimal rest ≡ front ++ (48 + rest % 10) ∷ [] = decimal_step rest c.loop-rest-test.true (omega arith) in
    let long : length (decimal rest) ≡ length front + 1 = ap length step ∙ length-append front ((48 + rest % 10) ∷ []) in
    record {
      smaller = omega (arith, c.loop-rest.invariant.smaller);
      line = ap (λ (t : List ℕ). front ++ t) c.put.ensures.line
          ∙ sym (append_assoc front ((48 + rest % 10) ∷ []) written)
          ∙ ap (λ (t : List ℕ). t ++ written) (sym step)
          ∙ c.loop-rest.invariant.line;
      room = omega (arith, long, c.put.ensures.start, c.loop-rest.invariant.room);
    }

pub put-requires : goal.put-requires
put-requires c =
    omega (arith, c.loop-rest.invariant.room, c.requires, decimal_nonempty c.loop-rest.rest (omega arith), length-decimal-le 20 c.args.number (omega arith) (omega arith) (omega arith))

pub put-requires-2 : goal.put-requires-2
put-requires-2 c =
    omega (arith, c.loop-rest.invariant.room, c.requires, decimal_nonempty c.loop-rest.rest (omega arith), length-decimal-le 20 c.args.number (omega arith) (omega arith) (omega arith))

pub returns-clause-start : goal.returns-clause-start
returns-clause-start c =
    let long = length-decimal-le 20 c.args.number (omega arith) (omega arith) (omega arith) in
    let one = ap length (decimal_digit c.loop-rest.rest (omega arith)) in
    omega (arith, c.loop-rest.invariant.room, long, one)

pub returns-clause-line : goal.returns-clause-line
returns-clause-line c =
    let written = drop c.loop-rest.self.start c.loop-rest.self.octets in
    sym (sym c.loop-rest.invariant.line ∙ ap (λ (t : List ℕ). t ++ written) (decimal_digit c.loop-rest.rest (omega arith)) ∙ sym c.put-2.ensures.line)
