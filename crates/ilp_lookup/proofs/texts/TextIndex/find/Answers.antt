use Rattle.ilp_lookup.proofs.Places.{no-place, found-place}
use Rattle.ilp_lookup.proofs.texts.TextIndex.find.Goals as goal

pub returns-in_err-place : goal.returns-in_err-place
returns-in_err-place g c =
    rw (c.from_residual.ensures, ← c.self.view_is) (no-place (λ v. v.items) c.args.text.now c.self.inside.texts.keys c.in_err-place.ensures.found)

pub returns : goal.returns
returns g c =
    rw (← c.self.view_is) (found-place (λ v. v.items) c.args.text.now c.self.inside.texts.keys c.self.invariant.distinct c.in_ok-place.place c.in_ok-place.ensures.index)
