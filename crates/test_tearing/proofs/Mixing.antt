-- What a crash leaves of a write, octet by octet.
use Rattle.std.proofs.Common.{◌≡◌, ◌⊎◌, inl, inr, ⊎_elim, ℕ, zero, suc, ◌+◌, ◌<◌, ◌≤◌, List, [], ◌∷◌, ◌++◌, length, take, drop, refl, sym, ◌∙◌, ap, subst, arith, append_assoc, add-one}
use Rattle.std.specs.Prelude.{get_or}
use Rattle.std.proofs.lemmas.Bool.{cases_lt}
use Rattle.std.proofs.lemmas.List.{append-nil, drop_all, drop_more, get_or_past}
use Rattle.ilp_line_file.specs.Device.{IsMixed}

-- these are the first octets of what is left: what may follow them, may be left behind them
abbrev pub IsFront : List ℕ → List ℕ → ℕ → List ℕ → Type 0
IsFront old octets place mixed = (rest : List ℕ) → IsMixed (drop place old) (drop place octets) rest → IsMixed old octets (mixed ++ rest)

pub at_first : (old octets : List ℕ) → IsFront old octets 0 []
at_first old octets rest is = is

nothing_past : (octets : List ℕ) → IsMixed [] octets []
nothing_past [] = refl
nothing_past (b ∷ octets) = tt

module _ (old octets : List ℕ) (place : ℕ) (mixed : List ℕ) (front : IsFront old octets place mixed) where
  -- one octet more
  pub one_more : (b m : ℕ) → place < length octets → get_or octets place 0 ≡ b → (m ≡ b) ⊎ (m ≡ get_or old place 0) → IsFront old octets (place + 1) (mixed ++ m ∷ [])
  one_more b m within is left rest behind =
      subst (IsMixed old octets) (sym (append_assoc mixed (m ∷ []) rest))
      (front (m ∷ rest) (subst (λ (os : List ℕ). IsMixed (drop place old) os (m ∷ rest)) (sym next) (by (cases_lt place (length old)))))
    where
      next : drop place octets ≡ b ∷ drop (place + 1) octets
      next = drop_more octets place 0 within ∙ ap (λ (x : ℕ). x ∷ drop (place + 1) octets) is

      inside : place < length old → IsMixed (drop place old) (b ∷ drop (place + 1) octets) (m ∷ rest)
      inside lt = subst (λ (os : List ℕ). IsMixed os (b ∷ drop (place + 1) octets) (m ∷ rest)) (sym (drop_more old place 0 lt)) (left, behind)

      past : length old ≤ place → IsMixed (drop place old) (b ∷ drop (place + 1) octets) (m ∷ rest)
      past le =
          let none : drop place old ≡ [] = drop_all place old le in
          let none_more : drop (place + 1) old ≡ [] = drop_all (place + 1) old (omega (arith, le)) in
          let zero_there : get_or old place 0 ≡ 0 = get_or_past old place 0 le in
          subst (λ (os : List ℕ). IsMixed os (b ∷ drop (place + 1) octets) (m ∷ rest)) (sym none)
          (⊎_elim (λ (e : m ≡ b). inl e) (λ (e : m ≡ get_or old place 0). inr (e ∙ zero_there)) left, subst (λ (os : List ℕ). IsMixed os (drop (place + 1) octets) rest) none_more behind)

      by : (place < length old) ⊎ (length old ≤ place) → IsMixed (drop place old) (b ∷ drop (place + 1) octets) (m ∷ rest)
      by (inl lt) = inside lt
      by (inr ge) = past ge

  -- the file may end past the old end
  pub stops : length old ≤ place → IsMixed old octets mixed
  stops le =
      subst (IsMixed old octets) (append-nil mixed)
      (front [] (subst (λ (os : List ℕ). IsMixed os (drop place octets) []) (sym (drop_all place old le)) (nothing_past (drop place octets))))

  -- and behind all that is written it is the old one
  pub ends : (new rest : List ℕ) → length octets ≤ place → rest ≡ drop place old → new ≡ mixed ++ rest → IsMixed old octets new
  ends new rest le behind is =
      subst (IsMixed old octets) (sym is)
      (front rest (subst (λ (os : List ℕ). IsMixed (drop place old) os rest) (sym (drop_all place octets le)) behind))
