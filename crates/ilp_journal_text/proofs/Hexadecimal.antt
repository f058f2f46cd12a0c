-- What was written in hexadecimal digits is read as the same octets.
use Rattle.std.proofs.Common.{◌≡◌, ℕ, List, Result, Ok, Err, MatchResult, refl, sym, ap, subst, ◌∙◌, arith}
use Rattle.hex.specs.Hex.{decode_sized, encode_lower}
use Rattle.hex.specs.declared.error.FromHexError.{FromHexError}
use Rattle.hex.proofs.HexLemmas.{decode_of-ok, decode_sized-ok, decode_sized-twice, decode_sized-encode_lower}
use Rattle.ilp_journal_text.specs.Reading.{AreOctets}

module _ (field : List ℕ) (n : ℕ) (r : Result (Unit {0}) FromHexError) (out : List ℕ) where
  abbrev pub Decodes : Result (List ℕ) FromHexError → Type 0
  Decodes decoded = MatchResult decoded (λ octets. (r ≡ Ok tt) × (out ≡ octets)) (λ e. r ≡ Err e)

  pub octets_back : Decodes (decode_sized field n) → (octets : List ℕ) → AreOctets n octets → field ≡ encode_lower octets → (r ≡ Ok tt) × (out ≡ octets)
  octets_back told octets are is = subst Decodes (ap (λ (text : List ℕ). decode_sized text n) is ∙ decode_sized-encode_lower octets n are.0 are.1) told

  pub octets_out : Decodes (decode_sized field n) → r ≡ Ok tt → AreOctets n out
  octets_out told ok = by (decode_sized field n) refl told
    where
      by : (decoded : Result (List ℕ) FromHexError) → decode_sized field n ≡ decoded → Decodes decoded → AreOctets n out
      by (Ok octets) is found =
          let long = decode_sized-ok field n octets is in
          let all = decode_of-ok field octets (sym (decode_sized-twice field n long) ∙ is) in
          subst (AreOctets n) (sym found.1) (omega (arith, all.2, long), all.3)
      by (Err e) is failed = absurd (cc)
