use Rattle.std.proofs.Common.{[], ◌∷◌, ◌++◌, sym, ap, subst}
use Rattle.ilp_tallies.specs.Tallies.{PlainTallies, AreTallies}
use Rattle.ilp_tallies.proofs.Growing.{tallies_grow, with_entry_is, grows_by}
use Rattle.ilp_tallies.proofs.tallies.Tallies.apply.Goals as goal

-- rows and counts get what the entry adds, and its settlement is added or removed
pub returns : goal.returns
returns g c =
    let t = c.args.self.now in
    let j = c.args.journal.now.entries in
    let e = c.args.entry.now in
    let same = ap (λ (u : PlainTallies). u.base) c.self.view_is in
    grows_by t c.update_asks.new.self j e
    (subst (AreTallies t.assets t.base (j ++ e ∷ []))
    (sym (with_entry_is t c.add_step.new.self c.update_asks.new.self c.step_of-step.result c.self.inside.base j e.what same c.step_of-step.ensures.step c.add_step.ensures c.update_asks.ensures))
    (tallies_grow j e c.requires.answers c.requires.closings c.requires.answer c.requires.closing t c.requires.tallies c.requires.known))
