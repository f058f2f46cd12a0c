-- What stands between two texts, and the peer that is named there.
use Rattle.std.proofs.Common.{◌≡◌, ℕ, List, ◌++◌, Option, Some, None, Bor, MatchOption, sym, ap, ◌∙◌, codes}
use Rattle.std.specs.Prelude.{◌≢◌}
use Rattle.std.proofs.lemmas.List.{append_cancel_left, append_cancel_right}
use Rattle.ilp_lookup.specs.Texts.{IsPlaceOf}
use Rattle.ilp_accounts.specs.Configuration.{Configuration, peer_names}
use Rattle.ilp_order.specs.Found.{Finds}
use Rattle.ilp_settlement.specs.Targets.{account_target}
use Rattle.ilp_server.specs.Targets.{IsOfPeer}
use Rattle.ilp_server.proofs.PeerLemmas.{no_peer, peer_known, peer_text}

-- what stands before the second text in what follows the first
pub between_is : (octets before after rest : List ℕ) (found : Option (Bor (List ℕ))) → octets ≡ before ++ rest
    → MatchOption found ((front : List ℕ) → rest ≢ front ++ after) (λ x. rest ≡ x.now ++ after)
    → MatchOption found ((middle : List ℕ) → octets ≢ before ++ (middle ++ after)) (λ x. octets ≡ before ++ (x.now ++ after))
between_is octets before after rest None begins none =
    λ middle whole. none middle (append_cancel_left before rest (middle ++ after) (sym begins ∙ whole))
between_is octets before after rest (Some x) begins ends = begins ∙ ap (λ l. before ++ l) ends

-- a name stands in one way between the two texts of a target
pub name_is : (call name other : List ℕ) → account_target call name ≡ account_target call other → name ≡ other
name_is call name other same =
    append_cancel_right name other call (append_cancel_left (codes "/accounts/") (name ++ call) (other ++ call) same)

-- the peer of a path, by the place of the name in it
pub peer_of_path : (C : Configuration) (call path name : List ℕ) (found : Option ℕ) → path ≡ account_target call name
    → IsPlaceOf (peer_names C.peers) name found → Finds (IsOfPeer C (account_target call) path) found
peer_of_path C call path name None is nowhere =
    λ peer of. no_peer (λ p. p.name) C name nowhere peer of.known (sym (name_is call name _ (sym is ∙ of.named)))
peer_of_path C call path name (Some peer) is there = record {
  known = peer_known (λ p. p.name) C name peer there.0;
  named = is ∙ ap (account_target call) (sym (peer_text (λ p. p.name) C name peer there.0));
}
