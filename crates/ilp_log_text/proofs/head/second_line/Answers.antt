use Rattle.std.proofs.Common.{ℕ, ◌<◌, List, ◌++◌, length, take, codes, ap, ◌∙◌, arith}
use Rattle.std.specs.List.{flat_map}
use Rattle.std.proofs.lemmas.Option.{unwrap_or-slice_get}
use Rattle.ilp_accounts.specs.Configuration.{PlainPeer, nobody, peer_at}
use Rattle.ilp_remembered.specs.Remembered.{asset_of, peer_line, run_line}
use Rattle.ilp_log_text.specs.Head.{further_line}
use Rattle.ilp_log_text.proofs.Written.{further_next}
use Rattle.ilp_log_text.proofs.head.second_line.Goals as goal

pub loop-peer-preserved : goal.loop-peer-preserved
loop-peer-preserved c =
    let C = c.args.config.now in
    let n = c.loop-peer.peer in
    let run : List ℕ = run_line C.settings.run in
    let before : List ℕ = run ++ flat_map (further_line C) (take n C.peers) in
    let line : List ℕ = peer_line (peer_at C n).name (asset_of C (peer_at C n)) in
    let within : n < length C.peers = omega (arith, c.loop-peer-test.true, c.peers-peer-end.ensures.count) in
    let told = c.as_str.ensures.value ∙ c.in_ok-peer_line.ensures in
    c.in_ok-push_str-2.ensures.bytes
    ∙ ap (λ (text : List ℕ). text ++ c.as_str.result.now) (c.in_ok-push_str.ensures.bytes ∙ ap (λ (text : List ℕ). text ++ codes "; ") c.loop-peer.invariant)
    ∙ ap (λ (text : List ℕ). (before ++ codes "; ") ++ text) told
    ∙ ap (λ (p : PlainPeer). (before ++ codes "; ") ++ peer_line p.name (asset_of C p)) (unwrap_or-slice_get C.peers n nobody)
    ∙ further_next C run C.peers n nobody within
