use Rattle.std.proofs.Common.{Some, None, ◌++◌, List, ℕ}
use Rattle.std.specs.Prelude.{◌≢◌}
use Rattle.std.proofs.lemmas.Bool.Decides.{Decides-eqb}
use Rattle.std.proofs.lemmas.Slice.Eq.{strip_prefix_is, strip_suffix_is}
use Rattle.ilp_server.proofs.TargetLemmas.{between_is}
use Rattle.ilp_server.proofs.target.between.Goals as goal

pub returns-in_err-rest : goal.returns-in_err-rest
returns-in_err-rest c =
    let none : (rest : List ℕ) → c.args.octets.now ≢ c.args.before.now ++ rest =
    strip_prefix_is Decides-eqb c.args.octets.now c.args.before.now None c.in_err-rest.ensures.cases in
    rw c.from_residual.ensures (λ middle whole. none (middle ++ c.args.after.now) whole)

pub returns : goal.returns
returns c =
    let begins = strip_prefix_is Decides-eqb c.args.octets.now c.args.before.now (Some c.in_ok-rest.rest) c.in_ok-rest.ensures.cases in
    let ends = strip_suffix_is Decides-eqb c.in_ok-rest.rest.now c.args.after.now c.strip_suffix.result c.strip_suffix.ensures.cases in
    between_is c.args.octets.now c.args.before.now c.args.after.now c.in_ok-rest.rest.now c.strip_suffix.result begins ends
