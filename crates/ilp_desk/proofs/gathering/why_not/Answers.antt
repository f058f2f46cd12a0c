use Rattle.std.proofs.Common.{◌<◌, get_or, refl, arith}
use Rattle.ilp_desk.proofs.gathering.why_not.Goals as goal

-- no actor has two ends, none has none, and each end agrees
pub returns : goal.returns
returns g c = record {
  once = λ a known. let less : a < c.args.actors = omega (arith, c.requires) in omega (arith, c.in_default.ensures a less, c.in_default-missing.ensures a less);
  known = c.know.ensures;
  records = λ k d within.
      let a = (get_or c.args.ends.now.items k d).share.actor in
      let less : a < c.args.actors = omega (arith, c.requires, c.know.ensures k d within) in
      c.in_default-differing.ensures a less k d within refl;
}
