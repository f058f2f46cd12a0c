use Rattle.std.proofs.Common.{◌≡◌, [], ◌∷◌, ◌++◌, ◌∙◌, sym, ap, arith, rules}
use Rattle.test_tearing.specs.Tearing.{after}
use Rattle.test_tearing.proofs.Changes.{after_one_more}
use Rattle.test_tearing.proofs.disk.Disk.add.Goals as goal

pub invariant_of-self-2 : goal.invariant_of-self-2
invariant_of-self-2 c = record {
  read = λ some.
      let old = c.args.self.now in
      let more : c.push.new.self.items ≡ old.changes.items ++ c.args.change ∷ [] = search rules in
      c.requires ∙ sym (ap (after old.synced.items) more ∙ after_one_more old.synced.items old.changes.items c.args.change);
  room = λ some. omega (arith, c.in_ok-reserve.ensures.ok);
}
