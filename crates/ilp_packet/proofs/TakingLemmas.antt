-- What a reader took from the front of octets.
use Rattle.std.proofs.Common.{◌≡◌, ℕ, ◌+◌, List, ◌++◌, length, get_or, take, drop, ◌<◌, ap, subst, ◌∙◌, length-drop, refl, inl, inr, arith}
use Rattle.std.proofs.lemmas.Bool.{cases_lt}
use Rattle.std.proofs.lemmas.List.{drop_at, length-take, get_or-drop, get_or-take, get_or_past}
use Rattle.ilp_packet.specs.Reading.{AreOctets}

-- what a reader took from the front of octets
pub record Takes (octets text rest : List ℕ) : Type 0 where
  pub parts : octets ≡ text ++ rest
  pub rest_fits : AreOctets rest

-- the octet at a place, which is 0 past the end
pub octet_at : (octets : List ℕ) → AreOctets octets → (place : ℕ) → get_or octets place 0 < 256
octet_at octets fits place =
    elim (cases_lt place (length octets)) [
      | inl lt ↦ fits place 0 lt
      | inr le ↦ rw (get_or_past octets place 0 le) (omega arith)
    ]

pub AreOctets-drop : (n : ℕ) (octets : List ℕ) → AreOctets octets → AreOctets (drop n octets)
AreOctets-drop n octets fits place d in_rest = rw get_or-drop (fits (n + place) d (omega (arith, length-drop n octets)))

pub AreOctets-take : (n : ℕ) (octets : List ℕ) → AreOctets octets → AreOctets (take n octets)
AreOctets-take n octets fits place d in_front =
    let before : place < n = omega (arith, length-take n octets) in
    rw (get_or-take n octets place d before) (fits place d (omega (arith, length-take n octets)))

-- what follows a text
pub AreOctets-rest : (octets text rest : List ℕ) → AreOctets octets → octets ≡ text ++ rest → AreOctets rest
AreOctets-rest octets text rest fits parts =
    subst AreOctets (ap (drop (length text)) parts ∙ drop_at text rest (length text) refl) (AreOctets-drop (length text) octets fits)
