use Rattle.std.proofs.Common.{◌≡◌, ◌⊎◌, ℕ, List, [], ◌∷◌, ◌++◌, refl, sym, subst, arith, rules}
use Rattle.std.specs.Prelude.{get_or}
use Rattle.ilp_line_file.specs.Device.{IsMixed}
use Rattle.test_tearing.proofs.Mixing.{one_more, stops, ends}
use Rattle.test_tearing.proofs.change.mixed.Goals as goal

pub returns-then-place-loss : goal.returns-then-place-loss
returns-then-place-loss c = stops c.args.old.now c.args.octets.now c.loop-place.place c.loop-place.mixed.items c.loop-place.invariant (omega arith)

pub loop-place-preserved : goal.loop-place-preserved
loop-place-preserved c rest behind =
    let place = c.loop-place.place in
    let octet : ℕ = get_or c.args.octets.now place 0 in
    let more : c.push.new.self.items ≡ c.loop-place.mixed.items ++ c.octet_left.result ∷ [] = search rules in
    let left : (c.octet_left.result ≡ octet) ⊎ (c.octet_left.result ≡ get_or c.args.old.now place 0) = c.octet_left.ensures in
    subst (λ (m : List ℕ). IsMixed c.args.old.now c.args.octets.now (m ++ rest)) (sym more)
    (one_more c.args.old.now c.args.octets.now place c.loop-place.mixed.items c.loop-place.invariant octet c.octet_left.result c.loop-place-test.true refl left rest behind)
