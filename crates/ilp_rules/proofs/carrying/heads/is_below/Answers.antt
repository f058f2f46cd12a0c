use Rattle.std.proofs.Common.{◌≡◌, ℤ, ◌+ℤ◌, ap, ◌∙◌, to_z, of_z, FitsSigned, rules}
use Rattle.std.specs.Int.{w128}
use Rattle.std.specs.Prelude.{int_lt}
use Rattle.std.proofs.lemmas.Int.{to_z-of_z}
use Rattle.ilp_rules.proofs.carrying.heads.is_below.Goals as goal

pub returns : goal.returns
returns c =
    let owed = to_z-of_z w128 c.args.balance c.ranges.balance in
    let opened : to_z w128 (of_z w128 c.from.result) ≡ c.args.opened = search rules in
    let least : to_z w128 (of_z w128 c.from-2.result) ≡ c.args.least = search rules in
    let fits : FitsSigned w128 (c.args.balance +ℤ c.args.opened) = search rules in
    let sum = ap (λ (z : ℤ). to_z w128 (of_z w128 z)) (ap (λ (z : ℤ). z +ℤ to_z w128 (of_z w128 c.from.result)) owed ∙ ap (λ (z : ℤ). c.args.balance +ℤ z) opened)
    ∙ to_z-of_z w128 (c.args.balance +ℤ c.args.opened) fits in
    ap (λ (z : ℤ). int_lt z (to_z w128 (of_z w128 c.from-2.result))) sum ∙ ap (λ (z : ℤ). int_lt (c.args.balance +ℤ c.args.opened) z) least
