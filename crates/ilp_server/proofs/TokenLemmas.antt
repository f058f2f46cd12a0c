-- The peer whose token a field shows.
use Rattle.std.proofs.Common.{◌≡◌, ℕ, List, [], ◌∷◌, length, drop, Option, Some, None, sym, ap, ◌∙◌, subst}
use Rattle.std.specs.Char.{to_ascii_lowercase}
use Rattle.std.proofs.lemmas.List.{length-map}
use Rattle.std.proofs.Math.Seq.{drop-append_seam}
use Rattle.ilp_lookup.specs.Texts.{IsPlaceOf}
use Rattle.ilp_accounts.specs.Configuration.{Configuration, peer_at, peer_tokens}
use Rattle.ilp_order.specs.Found.{Finds}
use Rattle.ilp_server.specs.Fields.{IsOnly, ShowsToken, IsFrom}
use Rattle.ilp_server.proofs.PeerLemmas.{no_peer, peer_known, peer_text}

-- a token follows seven octets
after_scheme : (value token : List ℕ) → ShowsToken value token → drop 7 value ≡ token
after_scheme value token shows =
    let long : length shows.scheme ≡ 7 = sym (length-map shows.scheme to_ascii_lowercase) ∙ ap length shows.is_bearer in
    ap (λ n. drop n value) (sym long) ∙ ap (drop (length shows.scheme)) shows.whole ∙ drop-append_seam shows.scheme token

-- a value shows one token
pub token_is : (value token other : List ℕ) → ShowsToken value token → ShowsToken value other → token ≡ other
token_is value token other shows also = sym (after_scheme value token shows) ∙ after_scheme value other also

-- the one value is one
pub only_is : (values : List (List ℕ)) (value other : List ℕ) → IsOnly values value → IsOnly values other → value ≡ other
only_is values value other is also = let same : value ∷ [] ≡ other ∷ [] = sym is ∙ also in cc

-- a value that shows no token is from no peer
pub from_none : (C : Configuration) (values : List (List ℕ)) (value : List ℕ) (found : Option ℕ) → found ≡ None → IsOnly values value
    → ((token : List ℕ) → ¬ (ShowsToken value token)) → Finds (IsFrom C values) found
from_none C values value found is only none =
    rw is
    (λ peer from. none (peer_at C peer).token (subst (λ v. ShowsToken v (peer_at C peer).token) (only_is values from.value value from.only only) from.shown))

-- the peer by the place of the token
pub from_peer : (C : Configuration) (values : List (List ℕ)) (value token : List ℕ) (found : Option ℕ) → IsOnly values value
    → ShowsToken value token → IsPlaceOf (peer_tokens C.peers) token found → Finds (IsFrom C values) found
from_peer C values value token None only shows nowhere =
    λ peer from.
    let shown = subst (λ v. ShowsToken v (peer_at C peer).token) (only_is values from.value value from.only only) from.shown in
    no_peer (λ p. p.token) C token nowhere peer from.known (token_is value (peer_at C peer).token token shown shows)
from_peer C values value token (Some peer) only shows there = record {
  known = peer_known (λ p. p.token) C token peer there.0;
  value = value;
  only = only;
  shown = subst (ShowsToken value) (sym (peer_text (λ p. p.token) C token peer there.0)) shows;
}
