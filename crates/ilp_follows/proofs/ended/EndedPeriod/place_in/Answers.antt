use Rattle.std.proofs.Common.{◌≡◌, List, ℕ, ap, subst, ◌∙◌}
use Rattle.ilp_lookup.specs.Texts.{IsPlaceOf}
use Rattle.ilp_accounts.specs.Configuration.{Configuration, peer_at, peer_names}
use Rattle.ilp_follows.proofs.Named.{looked_up}
use Rattle.ilp_follows.proofs.ended.EndedPeriod.place_in.Goals as goal

-- a look-up by the peer's name finds its place
pub returns-clause-place : goal.returns-clause-place
returns-clause-place c =
    let C = c.args.self.now.config in
    let text : c.as_bytes.result.now ≡ (peer_at C c.args.peer).name = c.as_bytes.ensures.value ∙ c.name.ensures ∙ ap (λ (D : Configuration). (peer_at D c.args.peer).name) c.config-2.ensures.value in
    looked_up C c.args.config.now c.config.ensures.valid c.peers.ensures.valid c.args.peer c.peer_by_name.result c.requires
    (subst (λ (name : List ℕ). IsPlaceOf (peer_names c.args.config.now.peers) name c.peer_by_name.result) text c.peer_by_name.ensures.place)
