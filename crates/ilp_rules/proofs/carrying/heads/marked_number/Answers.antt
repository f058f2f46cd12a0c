use Rattle.std.proofs.Common.{ℕ, List, Some}
use Rattle.std.specs.Borrow.{Bor}
use Rattle.std.specs.Prelude.{codes}
use Rattle.std.proofs.lemmas.Bool.Decides.{Decides-eqb}
use Rattle.std.proofs.lemmas.Slice.Eq.{strip_prefix_is}
use Rattle.ilp_rules.proofs.KeyFronts.{told_number}
use Rattle.ilp_rules.proofs.carrying.heads.marked_number.Goals as goal

pub returns-in-Some : goal.returns-in-Some
returns-in-Some c = λ period after fits whole.
    told_number (λ (found : Bor (List ℕ)). found.now) period after c.args.rest.now c.in-Some.rest.now c.before_hyphen.result fits whole
    (strip_prefix_is Decides-eqb c.args.rest.now (codes ".") (Some c.in-Some.rest) c.in-Some.ensures.cases) c.before_hyphen.ensures
