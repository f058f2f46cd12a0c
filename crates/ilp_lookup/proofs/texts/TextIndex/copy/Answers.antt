use Rattle.std.proofs.Common.{◌≡◌, map, ◌∙◌}
use Rattle.std.proofs.lemmas.List.Elements.{same_from_all_zip}
use Rattle.ilp_lookup.proofs.Keys.{same-texts}
use Rattle.ilp_lookup.proofs.texts.TextIndex.copy.Given as given
use Rattle.ilp_lookup.proofs.texts.TextIndex.copy.Goals as goal

-- the copy has the same texts
same : (g : given.Over) (c : goal.In_ok-texts g) → map (λ v. v.items) c.in_ok-texts.texts.keys ≡ map (λ v. v.items) c.self.inside.texts.keys
same g c = same-texts (λ v. v.items) _ (λ x y h. same_from_all_zip _ x.items y.items h.0 (λ a b is. is)) c.self.inside.texts.keys c.in_ok-texts.texts.keys c.in_ok-texts.ensures.cases

pub invariant_of-result : goal.invariant_of-result
invariant_of-result g c = rw (same g c) c.self.invariant

pub returns : goal.returns
returns g c = same g c ∙ c.self.view_is
