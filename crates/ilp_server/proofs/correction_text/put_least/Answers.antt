use Rattle.std.proofs.Common.{rules, ◌≡◌, ℤ, List, ℕ, ◌++◌, codes, ap, ◌∙◌, FitsSigned, to_z, of_z}
use Rattle.std.specs.Int.{w128}
use Rattle.std.proofs.lemmas.Int.{to_z-of_z}
use Rattle.std.specs.Fmt.{decimal, signed_decimal}
use Rattle.ilp_server.proofs.TextLemmas.{joined}
use Rattle.ilp_server.proofs.correction_text.put_least.Goals as goal

pub returns : goal.returns
returns c =
    let fits : FitsSigned w128 c.args.balance = search rules in
    let least_fits : FitsSigned w128 c.from.result = search rules in
    let least_is : c.from.result ≡ c.args.least = search rules in
    joined (codes "{\"balance\":\"") (signed_decimal c.args.balance) (codes "\",\"least\":\"") (signed_decimal c.args.least) (codes "\",\"scale\":") (decimal c.args.scale) (codes "}") _ _ _
    (c.put_number.ensures.text
    ∙ ap (λ (l : List ℕ). l ++ (codes "{\"balance\":\"" ++ signed_decimal (to_z w128 (of_z w128 c.args.balance)))) c.requires.empty
    ∙ ap (λ (z : ℤ). codes "{\"balance\":\"" ++ signed_decimal z) (to_z-of_z w128 c.args.balance fits))
    (c.put_number-2.ensures.text
    ∙ ap (λ (z : ℤ). c.put_number.new.text.octets ++ (codes "\",\"least\":\"" ++ signed_decimal z)) (to_z-of_z w128 c.from.result least_fits ∙ least_is))
    c.put_scale.ensures
