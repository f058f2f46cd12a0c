-- What the first line of a log says.
use Rattle.std.proofs.Common.{◌≡◌, ◌≢◌, ℕ, ◌-◌, ◌^◌, ◌<◌, ◌≤◌, List, ◌++◌, length, take, drop, Result, Ok, Err, MatchResult, is_err, true, false, refl, sym, ◌∙◌, ap, subst, arith, append_assoc, length-append, codes}
use Rattle.std.specs.Fmt.{decimal}
use Rattle.std.specs.Str.{IsAscii, IsUtf8}
use Rattle.std.specs.Str.Parse.{ParsesUnsigned}
use Rattle.std.proofs.lemmas.Fmt.{IsAscii-decimal, parse-decimal, decimal_injective}
use Rattle.std.proofs.lemmas.Str.{IsUtf8-from_ascii}
use Rattle.std.proofs.lemmas.Bool.{false≢true}
use Rattle.std.proofs.lemmas.List.{take_at, drop_at}
use Rattle.std.specs.Prelude.{Option, None, Some, IfNone, OnOk}
use Rattle.hex.specs.Hex.{decode_of, decode_sized, encode_lower, lower_digits}
use Rattle.hex.specs.declared.error.FromHexError.{FromHexError}
use Rattle.hex.proofs.HexLemmas.{length-encode_with, decode_of-ok, decode_of-encode_lower, decode_sized-ok, decode_sized-twice, decode_sized-encode_lower}
use Rattle.ilp_journal_text.specs.Reading.{AreOctets}
use Rattle.ilp_log_text.specs.Head.{first_line}
use Rattle.ilp_log_text.specs.Text.{CanBegin}

-- ---- a number

pub number_text : (n : ℕ) (field : List ℕ) → n < 2 ^ 32 → field ≡ decimal n → IsUtf8 field
number_text n field fits is = IsUtf8-from_ascii field (subst IsAscii (sym is) (IsAscii-decimal n (omega (arith, fits))))

pub number_read : {E : Type 0} (n : ℕ) (field text : List ℕ) (r : Result ℕ E) → n < 2 ^ 32 → field ≡ decimal n → text ≡ field → ParsesUnsigned 32 10 text r → r ≡ Ok n
number_read n field text r fits is same parses = parse-decimal 32 n text r fits (omega (arith, fits)) (same ∙ is) parses

-- ---- a digest

module _ (digits : List ℕ) (r : Result (Unit {0}) FromHexError) (out : List ℕ) where
  abbrev pub Decodes : Result (List ℕ) FromHexError → Type 0
  Decodes decoded = MatchResult decoded (λ octets. (r ≡ Ok tt) × (out ≡ octets)) (λ e. r ≡ Err e)

  pub digest_back : (n : ℕ) → Decodes (decode_sized digits n) → (digest : List ℕ) → AreOctets n digest → digits ≡ encode_lower digest → (r ≡ Ok tt) × (out ≡ digest)
  digest_back n told digest are is = subst Decodes (ap (λ (text : List ℕ). decode_sized text n) is ∙ decode_sized-encode_lower digest n are.0 are.1) told

  -- digits that are not read are of no digest
  pub no_digest : (n : ℕ) → Decodes (decode_sized digits n) → is_err r ≡ true → (digest : List ℕ) → AreOctets n digest → digits ≢ encode_lower digest
  no_digest n told err digest are is = false≢true (sym (ap is_err (digest_back n told digest are is).0) ∙ err)

  pub digest_out : (n : ℕ) → Decodes (decode_sized digits n) → is_err r ≡ false → AreOctets n out
  digest_out n told ok = by (decode_sized digits n) refl told
    where
      by : (decoded : Result (List ℕ) FromHexError) → decode_sized digits n ≡ decoded → Decodes decoded → AreOctets n out
      by (Ok octets) is found =
          let long = decode_sized-ok digits n octets is in
          let all = decode_of-ok digits octets (sym (decode_sized-twice digits n long) ∙ is) in
          subst (AreOctets n) (sym found.1) (omega (arith, all.2, long), all.3)
      by (Err e) is failed = absurd (false≢true (sym ok ∙ ap is_err failed))

-- ---- the line

-- behind the word of the form
pub fields_of : (line fields : List ℕ) → line ≡ codes "ilp-log 1 " ++ fields → (count : ℕ) (digest : List ℕ) → line ≡ first_line count digest → fields ≡ decimal count ++ (codes " " ++ encode_lower digest)
fields_of line fields found count digest is = ap (drop 10) (sym found ∙ is)

module _ (fields : List ℕ) (count : ℕ) (digest : List ℕ) (begins : CanBegin count digest) (is : fields ≡ decimal count ++ (codes " " ++ encode_lower digest)) where
  digits_long : length (encode_lower digest) ≡ 64
  digits_long = omega (arith, length-encode_with lower_digits digest, begins.octets.0)

  cut : fields ≡ (decimal count ++ codes " ") ++ encode_lower digest
  cut = is ∙ sym (append_assoc (decimal count) (codes " ") (encode_lower digest))

  front_long : length (decimal count ++ codes " ") ≡ length fields - 64
  front_long = omega (arith, ap length cut, length-append (decimal count ++ codes " ") (encode_lower digest), digits_long)

  pub long_enough : 64 ≤ length fields
  long_enough = omega (arith, ap length cut, length-append (decimal count ++ codes " ") (encode_lower digest), digits_long)

  pub front_is : take (length fields - 64) fields ≡ decimal count ++ codes " "
  front_is = ap (take (length fields - 64)) cut ∙ take_at (decimal count ++ codes " ") (encode_lower digest) (length fields - 64) front_long

  pub digits_are : drop (length fields - 64) fields ≡ encode_lower digest
  digits_are = ap (drop (length fields - 64)) cut ∙ drop_at (decimal count ++ codes " ") (encode_lower digest) (length fields - 64) front_long

-- two lists that end with the same octet
pub same_front : (xs ys : List ℕ) → xs ++ codes " " ≡ ys ++ codes " " → xs ≡ ys
same_front xs ys is =
    let long : length ys ≡ length xs = omega (arith, ap length is, length-append xs (codes " "), length-append ys (codes " ")) in
    sym (take_at xs (codes " ") (length xs) refl) ∙ ap (take (length xs)) is ∙ take_at ys (codes " ") (length xs) long

-- a line is that of one number and one digest
module _ (count other : ℕ) (digest another : List ℕ) (begins : CanBegin count digest) (begins' : CanBegin other another) (is : first_line count digest ≡ first_line other another) where
  same : decimal count ++ (codes " " ++ encode_lower digest) ≡ decimal other ++ (codes " " ++ encode_lower another)
  same = ap (drop 10) is

  pub same_count : count ≡ other
  same_count =
      let texts = same_front (decimal count) (decimal other) (sym (front_is _ count digest begins refl) ∙ front_is _ other another begins' same) in
      decimal_injective count other (omega (arith, begins.few)) (omega (arith, begins'.few)) texts

  pub same_digest : digest ≡ another
  same_digest =
      let texts : encode_lower digest ≡ encode_lower another = sym (digits_are _ count digest begins refl) ∙ digits_are _ other another begins' same in
      let read : decode_of (encode_lower digest) ≡ Ok digest = decode_of-encode_lower digest begins.octets.1 in
      let read' : decode_of (encode_lower another) ≡ Ok another = decode_of-encode_lower another begins'.octets.1 in
      cc (sym read ∙ ap decode_of texts ∙ read')

-- what is told where there is nothing
pub on_none : {T : Type 0} {P : Type 0} (o : Option T) → P → IfNone o P
on_none None p = p
on_none (Some x) p = tt

pub on_ok : {E : Type 0} {P : Type 0} (r : Result (Unit {0}) E) → is_err r ≡ false → OnOk r P → P
on_ok (Ok x) ok p = p
on_ok (Err e) ok p = absurd (false≢true (sym ok))
