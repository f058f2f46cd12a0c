use Rattle.std.proofs.Common.{◌≡◌, ◌++◌, [], List, ℕ, length, map, sym, ap, ◌∙◌, arith, string_bytes}
use Rattle.std.specs.List.{flat_map, range_with_len}
use Rattle.std.proofs.lemmas.List.{flat_map_more}
use Rattle.std.proofs.lemmas.List.Folds.{flat_map-map}
use Rattle.std.proofs.lemmas.List.FromFn.{map-range_with_len_more}
use Rattle.ilp_shared.specs.Payouts.{peer_line}
use Rattle.ilp_shared.proofs.payouts.lines_of.Goals as goal

-- one more peer
pub loop-peer-preserved : goal.loop-peer-preserved
loop-peer-preserved c =
    let own = peer_line (map string_bytes c.args.named.now) c.args.config.now in
    let n = c.loop-peer.peer in
    c.in_ok-put_peer.ensures ∙ ap (λ xs. xs ++ own n) c.loop-peer.invariant
    ∙ flat_map_more (λ (x : List ℕ). x) [] (map own (range_with_len 0 n)) (own n)
    ∙ ap (flat_map (λ (x : List ℕ). x)) (sym (map-range_with_len_more own 0 n n (omega arith)))

-- all of them
pub returns : goal.returns
returns c =
    let own = peer_line (map string_bytes c.args.named.now) c.args.config.now in
    let all : c.loop-peer.peer ≡ length c.args.config.now.peers = omega (arith, c.peers-peer-end.ensures.count) in
    c.loop-peer.invariant ∙ flat_map-map (λ (x : List ℕ). x) own (range_with_len 0 c.loop-peer.peer)
    ∙ ap (λ n. flat_map own (range_with_len 0 n)) all
