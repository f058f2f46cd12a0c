-- Octets without a fault begin with a spelling.
use Rattle.std.proofs.Common.{◌≡◌, ℕ, inl, inr, ◌+◌, ◌*◌, ◌/◌, ◌%◌, ◌<◌, ◌≤◌, List, [], ◌∷◌, ◌++◌, length, take, drop, None, sym, ap, subst, arith, append_assoc}
use Rattle.std.proofs.lemmas.Bool.Decides.{nat_tests}
use Rattle.std.proofs.lemmas.Bool.{cases_lt}
use Rattle.std.proofs.lemmas.List.{length-take-le, take-append-drop}
use Rattle.ilp_oer.specs.Octets.{AreOctets}
use Rattle.ilp_oer.specs.OctetString.{prefix, BeginsWithSpelling, fault_of}

-- the prefix of a length, and at least so many octets, begin with a spelling
pub BeginsWithSpelling-prefix : (input more : List ℕ) (n : ℕ) → n < 65536 → input ≡ prefix n ++ more → n ≤ length more → BeginsWithSpelling input
BeginsWithSpelling-prefix input more n within told enough =
    let len : length (take n more) ≡ n = length-take-le n more enough in (
      take n more,
      drop n more,
      record {
        within = omega arith;
        whole = rw (len, append_assoc, take-append-drop) told;
      },
    )

-- an octet below 128 tells the length itself
fault_of-one : (first : ℕ) (more : List ℕ) → first < 128 → fault_of (first ∷ more) ≡ None → first ≤ length more
fault_of-one first more small none = grind (arith, nat_tests)

prefix-one : (first : ℕ) → first < 128 → prefix first ≡ first ∷ []
prefix-one first small = grind (arith, nat_tests)

-- 129 tells that one octet tells the length, which is at least 128
fault_of-two : (low : ℕ) (more : List ℕ) → fault_of (129 ∷ low ∷ more) ≡ None → (128 ≤ low) × (low ≤ length more)
fault_of-two low more none = (grind (arith, nat_tests), grind (arith, nat_tests))

prefix-two : (low : ℕ) → 128 ≤ low → low < 256 → prefix low ≡ 129 ∷ low ∷ []
prefix-two low least most = grind (arith, nat_tests)

-- 130 tells that two octets tell the length, which is at least 256
fault_of-three : (high low : ℕ) (more : List ℕ) → fault_of (130 ∷ high ∷ low ∷ more) ≡ None → (256 ≤ 256 * high + low) × (256 * high + low ≤ length more)
fault_of-three high low more none = (grind (arith, nat_tests), grind (arith, nat_tests))

prefix-three : (high low : ℕ) → 256 ≤ 256 * high + low → low < 256 → prefix (256 * high + low) ≡ 130 ∷ high ∷ low ∷ []
prefix-three high low least most =
    let upper : (256 * high + low) / 256 ≡ high = omega arith in
    let lower : (256 * high + low) % 256 ≡ low = omega arith in
    grind (arith, nat_tests, upper, lower)

fault_of-first : (first : ℕ) (more : List ℕ) → fault_of (first ∷ more) ≡ None → (first < 131) × (first ≡ 128 → ⊥)
fault_of-first first more none = (grind (arith, nat_tests), λ is. grind (arith, nat_tests))

begins-two : (more : List ℕ) → AreOctets (129 ∷ more) → fault_of (129 ∷ more) ≡ None → BeginsWithSpelling (129 ∷ more)
begins-two [] octets none = absurd (grind (arith, nat_tests))
begins-two (low ∷ rest) octets none =
    let told = fault_of-two low rest none in
    let low_in : low < 256 = octets 1 0 (omega arith) in
    BeginsWithSpelling-prefix (129 ∷ low ∷ rest) rest low (omega arith)
    (ap (λ (xs : List ℕ). xs ++ rest) (sym (prefix-two low told.0 low_in))) told.1

begins-three : (more : List ℕ) → AreOctets (130 ∷ more) → fault_of (130 ∷ more) ≡ None → BeginsWithSpelling (130 ∷ more)
begins-three [] octets none = absurd (grind (arith, nat_tests))
begins-three (high ∷ []) octets none = absurd (grind (arith, nat_tests))
begins-three (high ∷ (low ∷ rest)) octets none =
    let told = fault_of-three high low rest none in
    let high_in : high < 256 = octets 1 0 (omega arith) in
    let low_in : low < 256 = octets 2 0 (omega arith) in
    BeginsWithSpelling-prefix (130 ∷ high ∷ low ∷ rest) rest (256 * high + low) (omega arith)
    (ap (λ (xs : List ℕ). xs ++ rest) (sym (prefix-three high low told.0 low_in))) told.1

-- octets without a fault begin with a spelling
pub BeginsWithSpelling-faultless : (input : List ℕ) → AreOctets input → fault_of input ≡ None → BeginsWithSpelling input
BeginsWithSpelling-faultless [] octets none = absurd (cc)
BeginsWithSpelling-faultless (first ∷ more) octets none =
    let within = fault_of-first first more none in
    let faultless : ℕ → Type 0 = λ n. AreOctets (n ∷ more) → fault_of (n ∷ more) ≡ None → BeginsWithSpelling (n ∷ more) in
    elim (cases_lt first 128) [
      | inl small ↦ BeginsWithSpelling-prefix (first ∷ more) more first (omega arith)
          (ap (λ (xs : List ℕ). xs ++ more) (sym (prefix-one first small))) (fault_of-one first more small none)
      | inr large ↦ elim (cases_lt first 130) [
        | inl below ↦ (let is : 129 ≡ first = omega (arith, within.1) in subst faultless is (begins-two more) octets none)
        | inr above ↦ (let is : 130 ≡ first = omega arith in subst faultless is (begins-three more) octets none)
      ]
    ]
