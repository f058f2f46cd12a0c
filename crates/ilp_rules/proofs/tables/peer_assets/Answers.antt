use Rattle.std.proofs.Common.{◌∷◌, [], ◌++◌, take, sym, ap, ◌∙◌, arith}
use Rattle.std.proofs.lemmas.List.{take_more}
use Rattle.std.proofs.lemmas.Option.{slice_get_within, get_or_from_slice_get}
use Rattle.ilp_accounts.specs.Configuration.{peer_at}
use Rattle.ilp_rules.specs.Configured.{peer_assets}
use Rattle.ilp_rules.proofs.Known.{all_listed, asset_stands}
use Rattle.ilp_rules.proofs.tables.peer_assets.Goals as goal

-- the asset of the next peer comes after those of the peers before it
pub loop-peer-preserved : goal.loop-peer-preserved
loop-peer-preserved g c =
    let C = c.args.config.now in
    let n = c.loop-peer.peer in
    let asset = (peer_at C n).asset in
    let stands = asset_stands C n (omega (arith, c.peers-peer-end.ensures.count)) in
    c.in_ok-push.ensures.items ∙ ap (λ xs. xs ++ c.asset.result ∷ []) c.loop-peer.invariant
    ∙ ap (λ x. take n (peer_assets C) ++ x ∷ []) (c.asset.ensures ∙ sym (get_or_from_slice_get (peer_assets C) n asset asset stands))
    ∙ sym (take_more (peer_assets C) n asset (slice_get_within (peer_assets C) n asset stands))

-- all are there
pub returns : goal.returns
returns g c = c.loop-peer.invariant ∙ all_listed c.args.config.now c.loop-peer.peer (omega (arith, c.peers-peer-end.ensures.count))
