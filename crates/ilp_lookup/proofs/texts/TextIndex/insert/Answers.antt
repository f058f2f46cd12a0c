use Rattle.std.proofs.Common.{◌≡◌, ◌∷◌, [], ◌++◌, length, map, ap, sym, ◌∙◌, arith, Contains}
use Rattle.std.proofs.lemmas.Bool.{false≢true}
use Rattle.std.proofs.lemmas.List.{length-append}
use Rattle.ilp_lookup.proofs.Keys.{insert_key-texts, AllPairs-texts}
use Rattle.ilp_lookup.proofs.texts.TextIndex.insert.Given as given
use Rattle.ilp_lookup.proofs.texts.TextIndex.insert.Goals as goal

-- the texts are those that were there, and then the new one
appended : (g : given.Over) (c : goal.In_ok-insert g) → map (λ v. v.items) c.insert.new.self.keys ≡ c.args.self.now ++ c.args.text.now ∷ []
appended g c =
    let absent : ¬ Contains c.args.self.now c.in_ok-text.text.items = rw (c.in_ok-text.ensures.items) (λ there. false≢true (sym c.if-has.false ∙ c.has.ensures.1 there)) in
    ap (map (λ v. v.items)) c.in_ok-insert.ensures.keys
    ∙ insert_key-texts (λ v. v.items) c.self.inside.texts.keys c.in_ok-text.text (rw c.self.view_is absent)
    ∙ (λ i. c.self.view_is i ++ c.in_ok-text.ensures.items i ∷ [])

pub invariant_of-self-2 : goal.invariant_of-self-2
invariant_of-self-2 g c = record {
  few =
      let one_more = length-append c.args.self.now (c.args.text.now ∷ []) in
      let long = ap length (appended g c) ∙ one_more in
      omega (arith, long, c.requires.few);
  distinct = AllPairs-texts (λ v. v.items) c.insert.new.self.keys c.in_ok-insert.ensures.unique;
}

pub returns-clause-ok : goal.returns-clause-ok
returns-clause-ok g c = appended g c
