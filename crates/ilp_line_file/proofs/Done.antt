-- A write that is done at once, or not at all, is one of its outcomes.
use Rattle.std.proofs.Common.{◌≡◌, inl, inr, ℕ, zero, suc, ◌+◌, ◌≤◌, List, [], ◌∷◌, ◌++◌, length, take, drop, refl, sym, ◌∙◌, ap, subst, arith, append_assoc}
use Rattle.std.proofs.lemmas.List.{take_at, drop_at, length-take-le}
use Rattle.ilp_line_file.specs.Device.{IsMixed, Torn, Holds}

abbrev none : List ℕ
none = []

nothing_left : (n : ℕ) → drop n none ≡ none
nothing_left zero = refl
nothing_left (suc n) = refl

done_is_mixed : (old octets rest : List ℕ) → rest ≡ drop (length octets) old → IsMixed old octets (octets ++ rest)
done_is_mixed old [] rest is = is
done_is_mixed [] (b ∷ octets) rest is = (inl refl, done_is_mixed [] octets rest (is ∙ sym (nothing_left (length octets))))
done_is_mixed (o ∷ old) (b ∷ octets) rest is = (inl refl, done_is_mixed old octets rest is)

undone_is_mixed : (old octets : List ℕ) → IsMixed old octets old
undone_is_mixed old [] = refl
undone_is_mixed [] (b ∷ octets) = tt
undone_is_mixed (o ∷ old) (b ∷ octets) = (inr refl, undone_is_mixed old octets)

drop_on : (xs : List ℕ) (at n k : ℕ) → at + n ≡ k → drop k xs ≡ drop n (drop at xs)
drop_on xs zero n k is = let same : k ≡ n = omega arith in ap (λ (j : ℕ). drop j xs) same
drop_on xs (suc at) n zero is = absurd (omega arith)
drop_on [] (suc at) n (suc k) is = sym (nothing_left n)
drop_on (x ∷ xs) (suc at) n (suc k) is = drop_on xs at n k (omega arith)

pub undone : (at : ℕ) (octets old c : List ℕ) → c ≡ old → (d : List ℕ) × (d ≡ old) × Torn at octets d c
undone at octets old c is = (c, is, record { before = refl; range = undone_is_mixed (drop at c) octets })

pub done : (at : ℕ) (octets old new c : List ℕ) → at ≤ length old → Holds old at octets new → c ≡ new → (d : List ℕ) × (d ≡ old) × Torn at octets d c
done at octets old new c within holds is =
    let rest = drop (at + length octets) old in
    let n : length (take at old) ≡ at = length-take-le at old within in
    let whole : c ≡ take at old ++ (octets ++ rest) = is ∙ holds ∙ append_assoc (take at old) octets rest in (
      old,
      refl,
      record {
        before = ap (λ (l : List ℕ). take at l) whole ∙ take_at (take at old) (octets ++ rest) at n;
        range = subst (λ (l : List ℕ). IsMixed (drop at old) octets l) (sym (ap (λ (l : List ℕ). drop at l) whole ∙ drop_at (take at old) (octets ++ rest) at n))
            (done_is_mixed (drop at old) octets rest (drop_on old at (length octets) (at + length octets) refl));
      },
    )
