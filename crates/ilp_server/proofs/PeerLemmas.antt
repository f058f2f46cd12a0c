-- What a look-up of a text says of the peers whose texts these are.
use Rattle.std.proofs.Common.{inl, inr, ◌≡◌, ℕ, ◌<◌, List, length, map, get_or, Some, Contains, sym, ap, ◌∙◌, arith}
use Rattle.std.specs.Prelude.{slice_get}
use Rattle.std.proofs.lemmas.Bool.{cases_order}
use Rattle.std.proofs.lemmas.List.{get_or-map, length-map}
use Rattle.std.proofs.lemmas.Option.{slice_get_within, get_or_from_slice_get, unwrap_or-slice_get}
use Rattle.ilp_accounts.specs.Configuration.{Configuration, PlainPeer, nobody, peer_at}
use Rattle.ilp_accounts.specs.Valid.{AreDistinct}

module _ (text_of : PlainPeer → List ℕ) (C : Configuration) (text : List ℕ) where
  -- the text of a peer
  text_at : (peer : ℕ) → peer < length C.peers → get_or (map text_of C.peers) peer text ≡ text_of (peer_at C peer)
  text_at peer known = get_or-map text_of C.peers peer nobody text known ∙ ap text_of (sym (unwrap_or-slice_get C.peers peer nobody))

  -- a text that is nowhere is that of no peer
  pub no_peer : ¬ (Contains (map text_of C.peers) text) → (peer : ℕ) → peer < length C.peers → text_of (peer_at C peer) ≡ text → ⊥
  no_peer nowhere peer known same = nowhere (peer, omega (arith, length-map C.peers text_of), text_at peer known ∙ same)

  -- the place of a text is that of a peer
  pub peer_known : (peer : ℕ) → slice_get (map text_of C.peers) peer ≡ Some text → peer < length C.peers
  peer_known peer there = let within = slice_get_within (map text_of C.peers) peer text there in omega (arith, length-map C.peers text_of)

  -- and the text is that peer's
  pub peer_text : (peer : ℕ) → slice_get (map text_of C.peers) peer ≡ Some text → text_of (peer_at C peer) ≡ text
  peer_text peer there = sym (text_at peer (peer_known peer there)) ∙ get_or_from_slice_get (map text_of C.peers) peer text text there

  -- a text is that of one peer, where no two peers have the same
  pub one_peer : AreDistinct (map text_of C.peers) → (p q : ℕ) → p < length C.peers → q < length C.peers → text_of (peer_at C p) ≡ text_of (peer_at C q) → p ≡ q
  one_peer distinct p q known also same =
      elim (cases_order p q) [
        | inl equal ↦ equal
        | inr unequal ↦
            elim unequal [
              | inl below ↦
                  absurd (distinct p q text below (omega (arith, also, length-map C.peers text_of)) (text_at p known ∙ same ∙ sym (text_at q also)))
              | inr above ↦
                  absurd (distinct q p text above (omega (arith, known, length-map C.peers text_of)) (text_at q also ∙ sym same ∙ sym (text_at p known)))
            ]
      ]
