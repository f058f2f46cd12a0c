use Rattle.std.proofs.Common.{ℕ, ◌<◌, List, ◌++◌, length, take, codes, append_assoc, ap, sym, ◌∙◌, arith}
use Rattle.std.specs.List.{flat_map}
use Rattle.std.proofs.lemmas.Option.{unwrap_or-slice_get}
use Rattle.ilp_accounts.specs.Configuration.{PlainPeer, nobody, peer_at}
use Rattle.ilp_remembered.specs.Remembered.{asset_of, peer_line, whole_peer_line}
use Rattle.ilp_remembered.proofs.PeerLines.{lines_next}
use Rattle.ilp_remembered.proofs.text.peer_lines.Goals as goal

pub loop-peer-preserved : goal.loop-peer-preserved
loop-peer-preserved c =
    let C = c.args.config.now in
    let n = c.loop-peer.peer in
    let front : List ℕ = flat_map (whole_peer_line C) (take n C.peers) in
    let line : List ℕ = peer_line (peer_at C n).name (asset_of C (peer_at C n)) in
    let within : n < length C.peers = omega (arith, c.loop-peer-test.true, c.peers-peer-end.ensures.count) in
    let told = c.as_str.ensures.value ∙ c.in_ok-peer_line.ensures in
    c.in_ok-push_str-2.ensures.bytes
    ∙ ap (λ (text : List ℕ). text ++ codes "\n") (c.in_ok-push_str.ensures.bytes ∙ (λ k. c.loop-peer.invariant k ++ told k))
    ∙ append_assoc front line (codes "\n")
    ∙ ap (λ (p : PlainPeer). front ++ whole_peer_line C p) (unwrap_or-slice_get C.peers n nobody)
    ∙ sym (lines_next (whole_peer_line C) C.peers n nobody within)
