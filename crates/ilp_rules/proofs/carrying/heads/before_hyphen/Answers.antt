use Rattle.std.proofs.Common.{◌≡◌, ℕ, List, ◌∷◌, Some, None, length, take, ap, ◌∙◌}
use Rattle.std.specs.Prelude.{position, ◌==◌}
use Rattle.std.proofs.Math.Seq.{take-append_seam}
use Rattle.ilp_order.proofs.RefusalLemmas.{some_same}
use Rattle.ilp_rules.proofs.KeyFronts.{hyphen_behind}
use Rattle.ilp_rules.proofs.carrying.heads.before_hyphen.Goals as goal

pub returns-in-Some : goal.returns-in-Some
returns-in-Some c = λ front after none whole.
    let place : c.in-Some.place ≡ length front
    = some_same c.in-Some.place (length front) (c.in-Some.ensures.value ∙ ap (λ (l : List ℕ). position (λ octet. octet == 45) l) whole ∙ hyphen_behind after front none) in
    ap (λ n. take n c.args.octets.now) place ∙ ap (λ (l : List ℕ). take (length front) l) whole ∙ take-append_seam front (45 ∷ after)

pub returns-in-None : goal.returns-in-None
returns-in-None c = λ front after none whole.
    let found : None ≡ Some (length front) = c.in-None.ensures.value ∙ ap (λ (l : List ℕ). position (λ octet. octet == 45) l) whole ∙ hyphen_behind after front none in
    cc
