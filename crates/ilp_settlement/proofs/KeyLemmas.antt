-- A table of keys, by the maps that it lies in.
use Rattle.std.proofs.Common.{◌≡◌, ℕ, refl, sym, ap, subst, ◌∙◌, ◌==◌, ◌&&◌, Bool, true, false, cond, List, [], ◌∷◌, map, Option, Some, None, option_and_then, option_map, Vec}
use mathlib.Core.Logic.{⊎_elim}
use Rattle.std.specs.Prelude.{unwrap_or}
use Rattle.std.specs.Str.{bytes_eq}
use Rattle.std.specs.Ordering.{nat_cmp, is_eq}
use Rattle.std.specs.Cmp.{unsigned_ties, eq_by_cmp_equiv}
use Rattle.std.specs.Cmp.Lexicographic.{slice_cmp, texts_ties, nat_list_cmp_total, nat_list_eq_equiv}
use Rattle.std.specs.Map.{lookup, set_value, KeepsOthers}
use Rattle.std.specs.BTreeMap.{BTreeMap, get, get_by, is_at, IsUnchanged, Updates}
use Rattle.std.proofs.lemmas.Bool.{cases_Bool, cond-true, cond-false, eqb-true}
use Rattle.std.proofs.lemmas.Map.Made.{lookup-map_values}
use Rattle.std.proofs.lemmas.Slice.Eq.{bytes_eq-Decides}
use Rattle.ilp_settlement.specs.KeyTable.{PeerKeys, PlainKeyTable, entry_of, Keeps}

-- a value written over one that g reads alike changes nothing that g reads
written_alike : {K X Y : Type 0} (g : X → Y) (test : K → Bool) (es : List (K × X)) (v w : X) → lookup test es ≡ Some v → g w ≡ g v
    → map {B = K × Y} (λ e. (e.0, g e.1)) (set_value test es w) ≡ map (λ e. (e.0, g e.1)) es
written_alike g test [] v w found alike = refl
written_alike {K} {X} {Y} g test (e ∷ es) v w found alike =
    let read : K × X → K × Y = λ e. (e.0, g e.1) in
    elim (test e.0) as (λ b. cond b (Some e.1) (lookup test es) ≡ Some v → map read (cond b ((e.0, w) ∷ es) (e ∷ set_value test es w)) ≡ map read (e ∷ es)) [
      | true ↦ λ f. ap (λ y. (e.0, y) ∷ map read es) (alike ∙ ap (λ o. g (unwrap_or o v)) (sym f))
      | false ↦ λ f. ap (λ rest. read e ∷ rest) (written_alike g test es v w f alike)
    ] found

-- octets that equal a key don't equal what differs from it
other_key : (key k q : List ℕ) → bytes_eq key k ≡ false → is_eq (slice_cmp nat_cmp key q) ≡ true → is_eq (slice_cmp nat_cmp k q) ≡ false
other_key key k q apart same =
    sym (texts_ties k q) ∙ nat_list_eq_equiv.symm k q ∙ sym (nat_list_eq_equiv.congr key q k (texts_ties key q ∙ same)) ∙ apart

-- the keys of one peer, as they lie in memory
abbrev pub KeyMap : Type 0 → Type 0
KeyMap Z = BTreeMap (Vec ℕ Z) ℕ

-- the keys of all peers
abbrev pub PeerMap : Type 0 → Type 0
PeerMap Z = BTreeMap ℕ (KeyMap Z)

module _ {Z : Type 0} where
  abbrev read : KeyMap Z → PeerKeys
  read keys = map (λ k. (k.0.items, k.1)) keys.entries

  -- what a clause sees of them
  abbrev pub seen : PeerMap Z → PlainKeyTable
  seen peers = map (λ p. (p.0, read p.1)) peers.entries

  -- the entry under octets among the keys of one peer
  abbrev pub under : List ℕ → KeyMap Z → Option ℕ
  under key keys = get_by (λ k. slice_cmp nat_cmp key k.items) keys

  -- among no keys nothing is found
  pub under_none : (key : List ℕ) (keys : KeyMap Z) → keys.entries ≡ [] → under key keys ≡ None
  under_none key keys empty = ap (lookup (λ k. is_eq (slice_cmp nat_cmp key k.items))) empty

  under_read : (key : List ℕ) (es : List (Vec ℕ Z × ℕ)) → lookup (λ k. bytes_eq key k) (map (λ k. (k.0.items, k.1)) es) ≡ lookup (λ k. is_eq (slice_cmp nat_cmp key k.items)) es
  under_read key [] = refl
  under_read key (e ∷ es) = λ i. cond (texts_ties key e.0.items i) (Some e.1) (under_read key es i)

  -- an entry of the table is found by the peer, and then by the key
  pub entry_of-seen : (peers : PeerMap Z) (peer : ℕ) (key : List ℕ) → option_and_then (under key) (get nat_cmp peers peer) ≡ entry_of (seen peers) peer key
  entry_of-seen peers peer key =
      (λ i. option_and_then (under key) (lookup (λ p. sym (unsigned_ties peer p) i) peers.entries))
      ∙ through (lookup (λ p. peer == p) peers.entries)
      ∙ sym (ap (option_and_then (lookup (λ k. bytes_eq key k))) (lookup-map_values read (λ p. peer == p) peers.entries))
    where
      through : (o : Option (KeyMap Z)) → option_and_then (under key) o ≡ option_and_then (lookup (λ k. bytes_eq key k)) (option_map read o)
      through None = refl
      through (Some keys) = sym (under_read key keys.entries)

  -- what is found among the keys of the peer, is found in the table
  pub found : (peers : PeerMap Z) (peer : ℕ) (key : List ℕ) (keys : Option (KeyMap Z)) (table : PlainKeyTable) → keys ≡ get nat_cmp peers peer → seen peers ≡ table
      → option_and_then (under key) keys ≡ entry_of table peer key
  found peers peer key keys table there is = ap (option_and_then (under key)) there ∙ entry_of-seen peers peer key ∙ ap (λ t. entry_of t peer key) is

  -- keys written back as they were leave the table as it was
  pub stays : (old new : PeerMap Z) (peer : ℕ) (before after : KeyMap Z) → Some before ≡ get nat_cmp old peer → IsUnchanged before after
      → new.entries ≡ set_value (is_at (nat_cmp peer)) old.entries after → seen new ≡ seen old
  stays old new peer before after there same written =
      ap (map (λ p. (p.0, read p.1))) written
      ∙ written_alike read (is_at (nat_cmp peer)) old.entries before after (sym there) (ap (map (λ k. (k.0.items, k.1))) same)

  -- after an insertion, the keys of a peer have the entry under this key, and under every other what they had
  under_updated : (old new : KeyMap Z) (key : Vec ℕ Z) (entry : ℕ) → Updates (λ x y. slice_cmp nat_cmp x.items y.items) old new key (Some entry)
      → (k : List ℕ) → under k new ≡ cond (bytes_eq key.items k) (Some entry) (under k old)
  unfolding KeepsOthers
  under_updated old new key entry updates k =
      ⊎_elim
      (λ same. subst (λ q. under q new ≡ Some entry) ((bytes_eq-Decides key.items k).0 same) updates.1 ∙ sym (cond-true _ _ _ same))
      (λ apart. updates.3 _ (λ x y. (eq_by_cmp_equiv nat_list_cmp_total).congr k x.items y.items) (λ q. other_key key.items k q.items apart) ∙ sym (cond-false _ _ _ apart))
      (cases_Bool (bytes_eq key.items k))

  -- where a peer's keys come to have one more, so does the table
  pub keeps : (old new : PeerMap Z) (peer : ℕ) (key : Vec ℕ Z) (entry : ℕ) (before after : KeyMap Z)
      → ((k : List ℕ) → under k before ≡ option_and_then (under k) (get nat_cmp old peer))
      → Updates (λ x y. slice_cmp nat_cmp x.items y.items) before after key (Some entry)
      → Updates nat_cmp old new peer (Some after)
      → Keeps (seen old) (seen new) peer key.items entry
  keeps old new peer key entry before after was inner outer p k =
      sym (entry_of-seen new p k)
      ∙ ap (option_and_then (under k)) (outer.0 p)
      ∙ ap (λ b. option_and_then (under k) (cond b (Some after) (get nat_cmp old p))) (sym (unsigned_ties peer p))
      ∙ at_peer (peer == p) (eqb-true peer p)
      ∙ ap (cond ((peer == p) && bytes_eq key.items k) (Some entry)) (entry_of-seen old p k)
    where
      at_peer : (b : Bool) → (b ≡ true → peer ≡ p)
          → option_and_then (under k) (cond b (Some after) (get nat_cmp old p)) ≡ cond (b && bytes_eq key.items k) (Some entry) (option_and_then (under k) (get nat_cmp old p))
      at_peer true same =
          under_updated before after key entry inner k
          ∙ ap (cond (bytes_eq key.items k) (Some entry)) (was k ∙ ap (λ q. option_and_then (under k) (get nat_cmp old q)) (same refl))
      at_peer false same = refl
