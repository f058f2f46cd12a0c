use Rattle.std.proofs.Common.{◌≡◌, List, ℕ, ℤ, Some, None, w64, to_z, of_z, rules, sym, ap, subst, ◌∙◌}
use Rattle.std.specs.Int.{w128}
use Rattle.std.specs.Prelude.{FitsSigned}
use Rattle.std.proofs.lemmas.Int.{to_z-of_z}
use Rattle.ilp_lookup.specs.Texts.{IsPlaceOf}
use Rattle.ilp_accounts.specs.Configuration.{Configuration, peer_at, peer_names}
use Rattle.ilp_journal.specs.Balance.{balance}
use Rattle.ilp_journal.specs.BroughtForward.{earlier_balance, earlier_place}
use Rattle.ilp_next_period.specs.NextPeriod.{places_by_name}
use Rattle.ilp_follows.proofs.Named.{balance_fits, found_earlier}
use Rattle.ilp_follows.proofs.ended.EndedPeriod.balance_at.Goals as goal

-- a balance that is brought forward has 64 bits
pub overflow_cast-result : goal.overflow_cast-result
overflow_cast-result c =
    let C = c.args.self.now.config in
    let next = c.args.config.now in
    let q = c.args.place in
    let p = c.in-Some.peer in
    let text : c.as_bytes.result.now ≡ (peer_at next q).name = c.as_bytes.ensures.value ∙ c.name.ensures in
    let stands : IsPlaceOf (peer_names C.peers) c.as_bytes.result.now (Some p)
    = subst (λ (D : Configuration). IsPlaceOf (peer_names D.peers) c.as_bytes.result.now (Some p)) c.config.ensures.value c.in-Some.ensures.place in
    let at : Some p ≡ earlier_place (places_by_name C next) q
    = found_earlier C next q (Some p) c.requires.there (subst (λ (name : List ℕ). IsPlaceOf (peer_names C.peers) name (Some p)) text stands) in
    let wide : FitsSigned w128 c.balance.result = search rules in
    let fits = balance_fits c.args.self.now next q p c.config.ensures.valid c.peers.ensures.valid c.requires.may c.requires.there (sym at) in
    subst (FitsSigned w64) (sym (to_z-of_z w128 c.balance.result wide ∙ c.balance.ensures.value)) fits

-- it is that of the peer of the name
pub returns-in-Some : goal.returns-in-Some
returns-in-Some c =
    let C = c.args.self.now.config in
    let next = c.args.config.now in
    let q = c.args.place in
    let p = c.in-Some.peer in
    let text : c.as_bytes.result.now ≡ (peer_at next q).name = c.as_bytes.ensures.value ∙ c.name.ensures in
    let stands : IsPlaceOf (peer_names C.peers) c.as_bytes.result.now (Some p)
    = subst (λ (D : Configuration). IsPlaceOf (peer_names D.peers) c.as_bytes.result.now (Some p)) c.config.ensures.value c.in-Some.ensures.place in
    let at : Some p ≡ earlier_place (places_by_name C next) q
    = found_earlier C next q (Some p) c.requires.there (subst (λ (name : List ℕ). IsPlaceOf (peer_names C.peers) name (Some p)) text stands) in
    let wide : FitsSigned w128 c.balance.result = search rules in
    let fits = balance_fits c.args.self.now next q p c.config.ensures.valid c.peers.ensures.valid c.requires.may c.requires.there (sym at) in
    ap (λ (b : ℤ). to_z w64 (of_z w64 b)) (to_z-of_z w128 c.balance.result wide ∙ c.balance.ensures.value)
    ∙ to_z-of_z w64 (balance c.args.self.now.entries p) fits ∙ ap (earlier_balance c.args.self.now.entries) at

-- no peer has it
pub returns-in-None : goal.returns-in-None
returns-in-None c =
    let C = c.args.self.now.config in
    let next = c.args.config.now in
    let q = c.args.place in
    let text : c.as_bytes.result.now ≡ (peer_at next q).name = c.as_bytes.ensures.value ∙ c.name.ensures in
    let stands : IsPlaceOf (peer_names C.peers) c.as_bytes.result.now None
    = subst (λ (D : Configuration). IsPlaceOf (peer_names D.peers) c.as_bytes.result.now None) c.config.ensures.value c.in-None.ensures.place in
    ap (earlier_balance c.args.self.now.entries) (found_earlier C next q None c.requires.there (subst (λ (name : List ℕ). IsPlaceOf (peer_names C.peers) name None) text stands))
