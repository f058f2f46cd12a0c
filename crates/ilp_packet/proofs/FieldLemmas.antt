-- Each field that is read is the one that is spelled, and what is spelled is read.
use Rattle.std.proofs.Common.{◌≡◌, ℕ, ◌^◌, ◌<◌, ◌≤◌, ℤ, Bool, false, not, ltb, eqb, List, [], ◌++◌, length, take, drop, Result, Ok, Err, refl, sym, ap, subst, ◌∙◌, length-append, arith}
use Rattle.std.specs.Int.{w64, to_be_bytes, from_be_bytes}
use Rattle.std.proofs.lemmas.Bool.{ltb-false, le-ltb, eqb-true, false_from_ne_true}
use Rattle.std.proofs.lemmas.List.{take_at, drop_at, take-append-drop, append-nil, nil_from_length, length-take}
use Rattle.std.proofs.lemmas.Nat.{be_bytes_8, from_be_bytes-to_be_bytes_8}
use Rattle.ilp_order.specs.Refusals.{◌>>=◌, refuse_if}
use Rattle.ilp_order.proofs.RefusalLemmas.{bound, refused_not, refusal_not, value_under, not_true, ok_same}
use Rattle.ilp_oer.specs.OctetString.{prefix, prefix_len, told_len, Splits}
use Rattle.ilp_oer.specs.OctetString as oer
use Rattle.ilp_terms.specs.Expiry.{IsExpiry, moment_of}
use Rattle.ilp_packet.specs.declared.fault.PacketFault.{PacketFault}
use Rattle.ilp_packet.specs.declared.fault.PacketFault.TheVariants.{Truncated, Trailing, BadExpiry, BadAddress, FieldTooLong}
use Rattle.ilp_packet.specs.Packet.{most_payload}
use Rattle.ilp_packet.specs.Address.{IsAddress, is_address}
use Rattle.ilp_packet.specs.ExpiryTest.{is_expiry}
use Rattle.ilp_packet.specs.Reading.{AreOctets, chunk_at, amount_at, expiry_at, string_at, string_within, address_at, last_of, payload_in, content_at}
use Rattle.ilp_packet.proofs.ExpiryLemmas.{expiry_from_test, is_expiry-passes}
use Rattle.ilp_packet.proofs.AddressLemmas.{address_from_test, is_address-passes}
use Rattle.ilp_packet.proofs.TakingLemmas.{Takes, octet_at, AreOctets-drop, AreOctets-rest, AreOctets-take}
use Rattle.ilp_packet.proofs.StringLemmas.{string_takes, string_again}

-- ---- a field of a fixed size

pub chunk_takes : (size : ℕ) (octets : List ℕ) (field : List ℕ × List ℕ) → AreOctets octets → chunk_at size octets ≡ Ok field
    → Takes octets field.0 field.1 × (length field.0 ≡ size) × AreOctets field.0
unfolding chunk_at
chunk_takes size octets field fits e =
    let g = refusal_not (ltb (length octets) size) Truncated (take size octets, drop size octets) field e in
    let long : size ≤ length octets = ltb-false _ _ g.0 in
    subst (λ (f : List ℕ × List ℕ). Takes octets f.0 f.1 × (length f.0 ≡ size) × AreOctets f.0) g.1
    (record { parts = sym (take-append-drop size octets); rest_fits = AreOctets-drop size octets fits }, omega (arith, length-take size octets), AreOctets-take size octets fits)

pub chunk_again : (size : ℕ) (text rest : List ℕ) → length text ≡ size → chunk_at size (text ++ rest) ≡ Ok (text, rest)
unfolding chunk_at
chunk_again size text rest len =
    let long : ltb (length (text ++ rest)) size ≡ false = le-ltb _ _ (omega (arith, length-append text rest)) in
    rw (long, take_at text rest size len, drop_at text rest size len) refl

-- ---- an amount

pub amount_takes : (octets : List ℕ) (field : ℕ × List ℕ) → AreOctets octets → amount_at octets ≡ Ok field
    → Takes octets (to_be_bytes w64 field.0) field.1 × (field.0 < 2 ^ 64)
unfolding amount_at
amount_takes octets field fits e =
    let b = bound (chunk_at 8 octets) (λ f. Ok (from_be_bytes w64 f.0, f.1)) field e in
    let t = chunk_takes 8 octets b.0 fits b.1 in
    let eight = octet_at b.0.0 t.2 in
    let below : from_be_bytes w64 b.0.0 < 2 ^ 64 = omega (arith, eight 0, eight 1, eight 2, eight 3, eight 4, eight 5, eight 6, eight 7) in
    let back : to_be_bytes w64 (from_be_bytes w64 b.0.0) ≡ b.0.0 = be_bytes_8 b.0.0 _ t.1 eight refl in
    subst (λ (f : ℕ × List ℕ). Takes octets (to_be_bytes w64 f.0) f.1 × (f.0 < 2 ^ 64)) (ok_same _ _ b.2)
    (subst (λ (xs : List ℕ). Takes octets xs b.0.1) (sym back) t.0, below)

pub amount_again : (n : ℕ) (rest : List ℕ) → n < 2 ^ 64 → amount_at (to_be_bytes w64 n ++ rest) ≡ Ok (n, rest)
unfolding amount_at
amount_again n rest fits =
    rw (chunk_again 8 (to_be_bytes w64 n) rest refl, from_be_bytes-to_be_bytes_8 n fits) refl

-- ---- an expiry

pub expiry_takes : (octets : List ℕ) (field : ℤ × List ℕ) → AreOctets octets → expiry_at octets ≡ Ok field
    → (text : List ℕ) × Takes octets text field.1 × IsExpiry text × (moment_of text ≡ field.0)
unfolding expiry_at
expiry_takes octets field fits e =
    let b = bound (chunk_at 17 octets) (λ f. refuse_if (not (is_expiry f.0)) BadExpiry >>= λ _. Ok (moment_of f.0, f.1)) field e in
    let t = chunk_takes 17 octets b.0 fits b.1 in
    let p = refused_not (not (is_expiry b.0.0)) BadExpiry (Ok (moment_of b.0.0, b.0.1)) field b.2 in
    (b.0.0, subst (λ (f : ℤ × List ℕ). Takes octets b.0.0 f.1) (ok_same _ _ p.1) t.0, expiry_from_test b.0.0 (not_true _ p.0), ap (λ (f : ℤ × List ℕ). f.0) (ok_same _ _ p.1))

-- the digits of an expiry are read as the moment that they name
pub expiry_at-chunk : (octets text rest : List ℕ) → chunk_at 17 octets ≡ Ok (text, rest) → IsExpiry text → expiry_at octets ≡ Ok (moment_of text, rest)
unfolding expiry_at
expiry_at-chunk octets text rest e h = rw (e, is_expiry-passes text h) refl

-- octets that begin with no expiry are refused
pub expiry_at-refused : (octets text rest : List ℕ) → chunk_at 17 octets ≡ Ok (text, rest) → (IsExpiry text → ⊥) → expiry_at octets ≡ Err BadExpiry
unfolding expiry_at
expiry_at-refused octets text rest e h = rw (e, false_from_ne_true (is_expiry text) (λ passes. h (expiry_from_test text passes))) refl

pub expiry_again : (text rest : List ℕ) → IsExpiry text → expiry_at (text ++ rest) ≡ Ok (moment_of text, rest)
expiry_again text rest h = expiry_at-chunk (text ++ rest) text rest (chunk_again 17 text rest h.seventeen) h

-- ---- an octet string of a limited content, and an address

-- where a test did not refuse the content of an octet string
checked_takes : (refuses : List ℕ → Bool) (fault : PacketFault) (octets : List ℕ) (field : List ℕ × List ℕ) → AreOctets octets
    → (string_at octets >>= λ f. refuse_if (refuses f.0) fault >>= λ _. Ok f) ≡ Ok field
    → Takes octets (oer.spelling field.0) field.1 × (refuses field.0 ≡ false)
checked_takes refuses fault octets field fits e =
    let b = bound (string_at octets) (λ f. refuse_if (refuses f.0) fault >>= λ _. Ok f) field e in
    let p = refused_not (refuses b.0.0) fault (Ok b.0) field b.2 in
    subst (λ (f : List ℕ × List ℕ). Takes octets (oer.spelling f.0) f.1 × (refuses f.0 ≡ false)) (ok_same b.0 field p.1)
    ((string_takes octets b.0 fits b.1).0, p.0)

pub string_within-takes : (limit : ℕ) (octets : List ℕ) (field : List ℕ × List ℕ) → AreOctets octets → string_within limit octets ≡ Ok field
    → Takes octets (oer.spelling field.0) field.1 × (length field.0 ≤ limit)
unfolding string_within
string_within-takes limit octets field fits e =
    let t = checked_takes (λ content. ltb limit (length content)) FieldTooLong octets field fits e in
    (t.0, ltb-false limit (length field.0) t.1)

pub string_within-again : (limit : ℕ) (content rest : List ℕ) → length content ≤ limit → limit < 65536 → string_within limit (oer.spelling content ++ rest) ≡ Ok (content, rest)
unfolding string_within
string_within-again limit content rest short small =
    ap (λ (r : Result (List ℕ × List ℕ) PacketFault). r >>= λ f. refuse_if (ltb limit (length f.0)) FieldTooLong >>= λ _. Ok f) (string_again content rest (omega arith))
    ∙ rw (le-ltb limit (length content) short) refl

pub address_takes : (octets : List ℕ) (field : List ℕ × List ℕ) → AreOctets octets → address_at octets ≡ Ok field
    → Takes octets (oer.spelling field.0) field.1 × IsAddress field.0
unfolding address_at
address_takes octets field fits e =
    let t = checked_takes (λ content. not (is_address content)) BadAddress octets field fits e in
    (t.0, address_from_test field.0 (not_true (is_address field.0) t.1))

pub address_again : (content rest : List ℕ) → IsAddress content → address_at (oer.spelling content ++ rest) ≡ Ok (content, rest)
unfolding address_at
address_again content rest h =
    let short = h.within in
    ap (λ (r : Result (List ℕ × List ℕ) PacketFault). r >>= λ f. refuse_if (not (is_address f.0)) BadAddress >>= λ _. Ok f) (string_again content rest (omega arith))
    ∙ rw (is_address-passes content h) refl

-- ---- a last field

pub last_takes : {X : Type 0} (field : X × List ℕ) (value : X) → last_of field ≡ Ok value → (field.0 ≡ value) × (field.1 ≡ [])
unfolding last_of
last_takes (x, rest) value e =
    let g = value_under (eqb (length rest) 0) Trailing x value e in
    (g.1, nil_from_length rest (eqb-true _ _ g.0))

-- a last octet string is all that there is
all_taken : (octets : List ℕ) (field : List ℕ × List ℕ) (value : List ℕ) → Takes octets (oer.spelling field.0) field.1 → (field.0 ≡ value) × (field.1 ≡ []) → octets ≡ oer.spelling value
all_taken octets field value t last =
    t.parts ∙ ap (λ (xs : List ℕ). oer.spelling field.0 ++ xs) last.1 ∙ append-nil (oer.spelling field.0) ∙ ap oer.spelling last.0

pub last_again : {X : Type 0} (value : X) → last_of (value, []) ≡ Ok value
unfolding last_of
last_again value = refl

-- the data, which is all that is left
pub payload_takes : (octets payload : List ℕ) → AreOctets octets → payload_in octets ≡ Ok payload → (octets ≡ oer.spelling payload) × (length payload ≤ most_payload)
unfolding payload_in
payload_takes octets payload fits e =
    let b = bound (string_within most_payload octets) last_of payload e in
    let t = string_within-takes most_payload octets b.0 fits b.1 in
    let l = last_takes b.0 payload b.2 in
    (all_taken octets b.0 payload t.0 l, subst (λ (text : List ℕ). length text ≤ most_payload) l.0 t.1)

pub payload_again : (payload : List ℕ) → length payload ≤ most_payload → payload_in (oer.spelling payload) ≡ Ok payload
unfolding payload_in
payload_again payload short =
    ap (λ (octets : List ℕ). string_within most_payload octets >>= last_of) (sym (append-nil (oer.spelling payload)))
    ∙ ap (λ (r : Result (List ℕ × List ℕ) PacketFault). r >>= last_of) (string_within-again most_payload payload [] short (omega arith))
    ∙ last_again payload

-- ---- the content after a type octet

pub content_takes : (octets content : List ℕ) → AreOctets octets → content_at octets ≡ Ok content
    → (octets ≡ oer.spelling content) × AreOctets content
unfolding content_at
content_takes octets content fits e =
    let b = bound (string_at octets) last_of content e in
    let t = (string_takes octets b.0 fits b.1).0 in
    let l = last_takes b.0 content b.2 in
    let whole = all_taken octets b.0 content t l in
    (whole, AreOctets-rest octets (prefix (length content)) content fits whole)

pub content_again : (content : List ℕ) → length content < 65536 → content_at (oer.spelling content) ≡ Ok content
unfolding content_at
content_again content fits =
    ap (λ (octets : List ℕ). string_at octets >>= last_of) (sym (append-nil (oer.spelling content)))
    ∙ ap (λ (r : Result (List ℕ × List ℕ) PacketFault). r >>= last_of) (string_again content [] fits)
    ∙ last_again content
