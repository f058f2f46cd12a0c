use Rattle.std.proofs.Common.{map, sym, ◌∙◌}
use Rattle.ilp_lookup.proofs.Keys.{Contains-found, found-Contains, list_any-texts}
use Rattle.ilp_lookup.proofs.texts.TextIndex.has.Goals as goal

pub returns : goal.returns
returns g c =
    let keys = c.self.inside.texts.keys in
    let text = c.args.text.now in
    let same = c.contains.ensures ∙ list_any-texts (λ v. v.items) text keys in
    rw (← c.self.view_is)
    (λ there. Contains-found text (map (λ v. v.items) keys) (sym same ∙ there), λ there. same ∙ found-Contains text (map (λ v. v.items) keys) there)
