-- What a valid configuration says of its peers and routes.
use Rattle.std.proofs.Common.{◌≡◌, ℕ, ◌<◌, ℤ, pos, ◌+ℤ◌, Bool, true, false, cond, List, [], ◌∷◌, length, map, take, Option, Some, None, ap, sym, refl, ◌∙◌, subst, All, Contains, arith}
use Rattle.std.specs.Prelude.{slice_get, option_map, unwrap_or, ◌≤ℤ◌, ◌==◌}
use Rattle.std.proofs.Math.Seq.{take-length}
use Rattle.std.proofs.lemmas.Bool.{eqb-true}
use Rattle.std.proofs.lemmas.Int.{ints}
use Rattle.std.proofs.lemmas.List.Elements.{All-contains, All-map}
use Rattle.std.proofs.lemmas.Option.{slice_get-map, slice_get-get_or, get_or_from_slice_get}
use Rattle.ilp_lookup.specs.Route.{IsRoute}
use Rattle.ilp_accounts.specs.Configuration.{Configuration, PlainPeer, nobody, peer_at}
use Rattle.ilp_accounts.specs.Valid.{IsValid, IsPeer, IsRouteTo}
use Rattle.ilp_journal.specs.Journal.{Entries, is_number}
use Rattle.ilp_journal.specs.Balance.{balance}
use Rattle.ilp_journal.specs.TrialBalance.{has_asset}
use Rattle.ilp_rules.specs.Configured.{IsKnown, peer_assets, asset_of}

-- a known peer stands among the peers
pub peer_stands : (C : Configuration) (p : ℕ) → IsKnown C p → slice_get C.peers p ≡ Some (peer_at C p)
peer_stands C p known = let at = slice_get-get_or C.peers p nobody known in at ∙ ap Some (sym (ap (λ o. unwrap_or o nobody) at))

-- so it is a valid peer
pub peer_valid : (C : Configuration) (p : ℕ) → IsValid C → IsKnown C p → IsPeer (length C.table.assets) (peer_at C p)
peer_valid C p valid known =
    let at = peer_stands C p known in
    let stands : Contains C.peers (peer_at C p) = (p, known, get_or_from_slice_get C.peers p (peer_at C p) (peer_at C p) at) in
    All-contains (IsPeer (length C.table.assets)) C.peers (peer_at C p) valid.peers stands

-- its asset stands among the peers' assets
pub asset_stands : (C : Configuration) (p : ℕ) → IsKnown C p → slice_get (peer_assets C) p ≡ Some (peer_at C p).asset
asset_stands C p known = slice_get-map (λ (q : PlainPeer). q.asset) C.peers p ∙ ap (option_map (λ (q : PlainPeer). q.asset)) (peer_stands C p known)

-- there are as many assets listed as peers
pub peers_listed : (C : Configuration) → length (peer_assets C) ≡ length C.peers
peers_listed C = from C.peers
  where
    from : (ps : List PlainPeer) → length (map (λ (p : PlainPeer). p.asset) ps) ≡ length ps
    from [] = refl
    from (p ∷ ps) = omega (arith, from ps)

-- each of them is an asset of the table
pub assets_within : (C : Configuration) → IsValid C → All (λ asset. asset < length C.table.assets) (peer_assets C)
assets_within C valid =
    All-map (λ asset. asset < length C.table.assets) (λ (p : PlainPeer). p.asset) C.peers (λ k nobody_else within. (valid.peers k nobody_else within).asset)

-- and those of as many peers are all
pub all_listed : (C : Configuration) (n : ℕ) → n ≡ length C.peers → take n (peer_assets C) ≡ peer_assets C
all_listed C n all = ap (λ k. take k (peer_assets C)) (all ∙ sym (peers_listed C)) ∙ take-length (peer_assets C)

-- the peer of a route is known
pub route_known : (C : Configuration) (octets : List ℕ) (p : ℕ) → IsValid C → IsRoute C.routes octets (Some p) → IsKnown C p
route_known C octets p valid routed =
    let to = All-contains (IsRouteTo (length C.peers)) C.routes routed.1.0 valid.routes routed.1.1.configured in
    subst (λ q. q < length C.peers) routed.1.2 to.peer

-- the asset of a peer that has one is the one that is looked up
pub asset_is : (C : Configuration) (x p : ℕ) → has_asset (peer_assets C) x p ≡ true → asset_of C p ≡ x
asset_is C x p e = at (slice_get C.peers p) (sym (ap (is_number x) (slice_get-map (λ (q : PlainPeer). q.asset) C.peers p)) ∙ e)
  where
    at : (o : Option PlainPeer) → is_number x (option_map (λ (q : PlainPeer). q.asset) o) ≡ true → (unwrap_or o nobody).asset ≡ x
    at None e = absurd cc
    at (Some q) e = sym (eqb-true x q.asset e)

-- an amount that leaves its peer's least leaves every peer's
pub covered : (C : Configuration) (j : Entries) (from amount p : ℕ) → (peer_at C p).least ≤ℤ balance j p → ((peer_at C from).least +ℤ pos amount) ≤ℤ balance j from
    → ((peer_at C p).least +ℤ pos (cond (from == p) amount 0)) ≤ℤ balance j p
covered C j from amount p least new = by_test (from == p) (eqb-true from p)
  where
    same : (b l : ℤ) → l ≤ℤ b → (l +ℤ pos 0) ≤ℤ b
    same b l t = omega (arith, ints)

    by_test : (b : Bool) → (b ≡ true → from ≡ p) → ((peer_at C p).least +ℤ pos (cond b amount 0)) ≤ℤ balance j p
    by_test true is = subst (λ q. ((peer_at C q).least +ℤ pos amount) ≤ℤ balance j q) (is refl) new
    by_test false is = same (balance j p) (peer_at C p).least least
