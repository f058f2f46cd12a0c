use Rattle.std.proofs.Common.{◌++◌, ◌∷◌, [], true, sym, subst}
use Rattle.ilp_settling.specs.Waiting.{look, ReachesSince}
use Rattle.ilp_settling.proofs.Looks.{reached_on}
use Rattle.ilp_settling.proofs.waiting.reached_after.Goals as goal

-- one look more found the balance at its threshold or above
pub returns-then-reaches : goal.returns-then-reaches
returns-then-reaches c = λ looks is.
    subst (λ r. ReachesSince (looks ++ look c.args.now r ∷ []) c.unwrap_or.result) (sym c.if-reaches.true)
    (subst (λ since. ReachesSince (looks ++ look c.args.now true ∷ []) since) (sym c.unwrap_or.ensures) (reached_on looks c.args.reached c.args.now is))
