-- Rows added number by number.
use Rattle.std.proofs.Common.{◌≡◌, ℕ, ◌<◌, Bool, true, false, cond, List, length, set, get_or, refl, sym, ap, ◌∙◌, subst, arith, get_or-set_same, get_or-set_other}
use Rattle.ilp_tallies.specs.declared.rows.PeerRow.{PeerRow}
use Rattle.ilp_tallies.specs.declared.rows.AssetRow.{AssetRow}
use Rattle.ilp_tallies.specs.Rows.{zero_peer, zero_asset, peer_plus, asset_plus}

module _ {R : Type 0} (zero_row : R) (plus : R → R → R) (plus_zero : (r : R) → plus r zero_row ≡ r) where
  -- the row at k, after more was added at q
  pub added_at : (rows : List R) (q k : ℕ) (more : R) (b : Bool) → q < length rows → (b ≡ true → k ≡ q) → (b ≡ false → k ≡ q → ⊥)
      → get_or (set rows q (plus (get_or rows q zero_row) more)) k zero_row ≡ plus (get_or rows k zero_row) (cond b more zero_row)
  added_at rows q k more true within same other =
      let P : ℕ → Type 0 = λ m. get_or (set rows q (plus (get_or rows q zero_row) more)) m zero_row ≡ plus (get_or rows m zero_row) more in
      subst P (sym (same refl)) (get_or-set_same rows q (plus (get_or rows q zero_row) more) zero_row within)
  added_at rows q k more false within same other =
      get_or-set_other rows q k (plus (get_or rows q zero_row) more) zero_row (other refl) ∙ sym (plus_zero (get_or rows k zero_row))

-- ---- peers

-- the row of these numbers
abbrev peer_of : ℕ → ℕ → ℕ → ℕ → PeerRow
peer_of a b c d = record { raised = a; lowered = b; sent = c; answered = d }

-- rows with the same numbers are the same
pub same_peer : (r s : PeerRow) → r.raised ≡ s.raised → r.lowered ≡ s.lowered → r.sent ≡ s.sent → r.answered ≡ s.answered → r ≡ s
same_peer r s a b c d =
    ap (λ n. peer_of n r.lowered r.sent r.answered) a ∙ ap (λ n. peer_of s.raised n r.sent r.answered) b
    ∙ ap (λ n. peer_of s.raised s.lowered n r.answered) c ∙ ap (λ n. peer_of s.raised s.lowered s.sent n) d

-- zeros add nothing
pub peer_plus_zero : (r : PeerRow) → peer_plus r zero_peer ≡ r
peer_plus_zero r = same_peer (peer_plus r zero_peer) r (omega arith) (omega arith) (omega arith) (omega arith)

-- rows may be added in any grouping
pub peer_plus_assoc : (r s u : PeerRow) → peer_plus (peer_plus r s) u ≡ peer_plus r (peer_plus s u)
peer_plus_assoc r s u = same_peer (peer_plus (peer_plus r s) u) (peer_plus r (peer_plus s u)) (omega arith) (omega arith) (omega arith) (omega arith)

-- ---- assets

-- the row of these numbers
abbrev asset_of : ℕ → ℕ → ℕ → ℕ → ℕ → ℕ → ℕ → ℕ → ℕ → ℕ → ℕ → AssetRow
asset_of a b c d e f g h i j k = record { begun = a; ended = b; taken = c; fees = d; sold = e; paid_in = f; paid_out = g; in_begun = h; in_released = i; out_begun = j; out_released = k }

-- rows with the same numbers are the same
pub same_asset : (r s : AssetRow) → r.begun ≡ s.begun → r.ended ≡ s.ended → r.taken ≡ s.taken → r.fees ≡ s.fees → r.sold ≡ s.sold
    → r.paid_in ≡ s.paid_in → r.paid_out ≡ s.paid_out → r.in_begun ≡ s.in_begun → r.in_released ≡ s.in_released
    → r.out_begun ≡ s.out_begun → r.out_released ≡ s.out_released → r ≡ s
same_asset r s a b c d e f g h i j k =
    ap (λ n. asset_of n r.ended r.taken r.fees r.sold r.paid_in r.paid_out r.in_begun r.in_released r.out_begun r.out_released) a
    ∙ ap (λ n. asset_of s.begun n r.taken r.fees r.sold r.paid_in r.paid_out r.in_begun r.in_released r.out_begun r.out_released) b
    ∙ ap (λ n. asset_of s.begun s.ended n r.fees r.sold r.paid_in r.paid_out r.in_begun r.in_released r.out_begun r.out_released) c
    ∙ ap (λ n. asset_of s.begun s.ended s.taken n r.sold r.paid_in r.paid_out r.in_begun r.in_released r.out_begun r.out_released) d
    ∙ ap (λ n. asset_of s.begun s.ended s.taken s.fees n r.paid_in r.paid_out r.in_begun r.in_released r.out_begun r.out_released) e
    ∙ ap (λ n. asset_of s.begun s.ended s.taken s.fees s.sold n r.paid_out r.in_begun r.in_released r.out_begun r.out_released) f
    ∙ ap (λ n. asset_of s.begun s.ended s.taken s.fees s.sold s.paid_in n r.in_begun r.in_released r.out_begun r.out_released) g
    ∙ ap (λ n. asset_of s.begun s.ended s.taken s.fees s.sold s.paid_in s.paid_out n r.in_released r.out_begun r.out_released) h
    ∙ ap (λ n. asset_of s.begun s.ended s.taken s.fees s.sold s.paid_in s.paid_out s.in_begun n r.out_begun r.out_released) i
    ∙ ap (λ n. asset_of s.begun s.ended s.taken s.fees s.sold s.paid_in s.paid_out s.in_begun s.in_released n r.out_released) j
    ∙ ap (λ n. asset_of s.begun s.ended s.taken s.fees s.sold s.paid_in s.paid_out s.in_begun s.in_released s.out_begun n) k

-- zeros add nothing
pub asset_plus_zero : (r : AssetRow) → asset_plus r zero_asset ≡ r
asset_plus_zero r =
    same_asset (asset_plus r zero_asset) r (omega arith) (omega arith) (omega arith) (omega arith) (omega arith) (omega arith) (omega arith) (omega arith)
    (omega arith) (omega arith) (omega arith)

-- rows may be added in any grouping
pub asset_plus_assoc : (r s u : AssetRow) → asset_plus (asset_plus r s) u ≡ asset_plus r (asset_plus s u)
asset_plus_assoc r s u =
    same_asset (asset_plus (asset_plus r s) u) (asset_plus r (asset_plus s u)) (omega arith) (omega arith) (omega arith) (omega arith) (omega arith) (omega arith)
    (omega arith) (omega arith) (omega arith) (omega arith) (omega arith)
