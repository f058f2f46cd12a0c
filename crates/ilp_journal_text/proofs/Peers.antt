-- A peer is found by its name.
use Rattle.std.proofs.Common.{◌≡◌, ◌⊎◌, ℕ, ◌<◌, List, Some, None, option_map, sym, ap, ◌∙◌, inl, inr}
use Rattle.std.specs.List.{slice_get}
use Rattle.std.proofs.lemmas.Bool.{cases_order}
use Rattle.std.proofs.lemmas.Option.{slice_get-map, slice_get-get_or, slice_get_within, get_or_from_slice_get, unwrap_or-slice_get}
use Rattle.ilp_lookup.specs.Texts.{IsPlaceOf}
use Rattle.ilp_accounts.specs.Configuration.{Configuration, PlainPeer, nobody, peer_names, place_named}
use Rattle.ilp_accounts.specs.Valid.{IsValid}
use Rattle.ilp_accounts.proofs.Lookups.{placed}
use Rattle.ilp_journal_text.specs.Text.{name_at}
use Rattle.ilp_journal_text.specs.Reading.{IsPeer}

module _ (C : Configuration) (peer : ℕ) (known : IsPeer C peer) where
  -- where its name stands
  pub name_stands : slice_get (peer_names C.peers) peer ≡ Some (name_at C peer)
  name_stands =
      slice_get-map (λ (p : PlainPeer). p.name) C.peers peer
      ∙ ap (option_map (λ (p : PlainPeer). p.name)) (slice_get-get_or C.peers peer nobody known)
      ∙ ap (λ (p : PlainPeer). Some p.name) (sym (unwrap_or-slice_get C.peers peer nobody))

  module _ (field : List ℕ) (is : field ≡ name_at C peer) where
    stands : slice_get (peer_names C.peers) peer ≡ Some field
    stands = name_stands ∙ ap Some (sym is)

    pub peer_found : (place : ℕ) → IsPlaceOf (peer_names C.peers) field (Some place) → place ≡ peer
    peer_found place found = sym (found.1 peer stands)

    pub peer_missing : IsPlaceOf (peer_names C.peers) field None → ⊥
    peer_missing none = none (peer, slice_get_within (peer_names C.peers) peer field stands, get_or_from_slice_get (peer_names C.peers) peer field field stands)

-- a name is that of one peer
module _ (C : Configuration) (valid : IsValid C) where
  one_peer : (name : List ℕ) (i k : ℕ) → slice_get (peer_names C.peers) i ≡ Some name → slice_get (peer_names C.peers) k ≡ Some name → i ≡ k
  one_peer name i k at_i at_k = by (cases_order i k)
    where
      both : (m n : ℕ) → slice_get (peer_names C.peers) m ≡ Some name → slice_get (peer_names C.peers) n ≡ Some name → m < n → ⊥
      both m n at_m at_n before =
          valid.names m n name before (slice_get_within (peer_names C.peers) n name at_n) (get_or_from_slice_get (peer_names C.peers) m name name at_m ∙ sym (get_or_from_slice_get (peer_names C.peers) n name name at_n))

      by : (i ≡ k) ⊎ ((i < k) ⊎ (k < i)) → i ≡ k
      by (inl same) = same
      by (inr (inl before)) = absurd (both i k at_i at_k before)
      by (inr (inr after)) = absurd (both k i at_k at_i after)

  pub peer_back : (peer : ℕ) → IsPeer C peer → Some peer ≡ place_named (peer_names C.peers) (name_at C peer)
  peer_back peer known =
      let there = name_stands C peer known in
      placed (peer_names C.peers) (name_at C peer) (Some peer) (there, λ other found. one_peer (name_at C peer) other peer found there)
