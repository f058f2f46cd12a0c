use Rattle.std.proofs.Common.{◌≡◌, ◌≤◌, [], ◌∷◌, ◌++◌, length, All, Contains, ap, sym, ◌∙◌, arith}
use Rattle.std.proofs.lemmas.Bool.{false≢true}
use Rattle.std.proofs.lemmas.List.Elements.{All-push, All-weaker}
use Rattle.ilp_lookup.specs.Route.{Route, prefixes}
use Rattle.ilp_lookup.proofs.Keys.{AllPairs-texts}
use Rattle.ilp_lookup.proofs.Found.{routes_of, prefixes-routes, insert_entry-routes}
use Rattle.ilp_lookup.proofs.routes.RouteIndex.insert.Given as given
use Rattle.ilp_lookup.proofs.routes.RouteIndex.insert.Goals as goal

-- the routes are those that were there, and then the new one
appended : (g : given.Over) (c : goal.After-self-1 g) → routes_of (λ v. v.items) c.insert.new.self.entries ≡ c.args.self.now ++ record { prefix = c.args.prefix.now; peer = c.args.peer } ∷ []
appended g c =
    let absent : ¬ Contains (prefixes c.args.self.now) c.in_ok-key.key.items = rw (c.in_ok-key.ensures.items) (λ there. false≢true (sym c.if-has.false ∙ c.has.ensures.1 there)) in
    ap (routes_of (λ v. v.items)) c.in_ok-insert.ensures.entries
    ∙ insert_entry-routes (λ v. v.items) c.self.inside.peers.entries c.in_ok-key.key c.args.peer (rw c.self.view_is absent)
    ∙ (λ i. c.self.view_is i ++ record { prefix = c.in_ok-key.ensures.items i; peer = c.args.peer } ∷ [])

pub invariant_of-self-2 : goal.invariant_of-self-2
invariant_of-self-2 g c = record {
  distinct = rw (prefixes-routes (λ v. v.items) c.insert.new.self.entries) (AllPairs-texts (λ v. v.items) _ c.in_ok-insert.ensures.unique);
  within =
      let most = c.max-self-inside.result in
      let before : All (λ (r : Route). length r.prefix ≤ most) c.args.self.now = All-weaker (λ (r : Route). length r.prefix ≤ c.self.inside.longest) (λ r. length r.prefix ≤ most) (λ r no_longer. omega (arith, no_longer, c.max-self-inside.ensures)) c.args.self.now (rw (← c.self.view_is) c.self.invariant.within) in
      rw (appended g c) (All-push (λ (r : Route). length r.prefix ≤ most) c.args.self.now (record { prefix = c.args.prefix.now; peer = c.args.peer }) before (omega (arith, c.max-self-inside.ensures)));
}

pub returns-clause-ok : goal.returns-clause-ok
returns-clause-ok g c = appended g c
