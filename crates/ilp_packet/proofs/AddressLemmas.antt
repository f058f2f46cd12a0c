-- The test for addresses passes exactly those of the grammar.
use Rattle.std.proofs.Common.{◌≡◌, ℕ, ◌<◌, ◌≤◌, ◌+◌, Bool, true, false, ◌&&◌, cond, List, [], ◌∷◌, ◌++◌, length, take, drop, refl, sym, ap, ◌∙◌, arith, append_assoc, inl, inr, ◌⊎◌, subst, get_or, length-append, length-drop}
use Rattle.std.specs.Prelude.{nat_le, bytes_eq, Contains}
use Rattle.std.specs.List.{list_all, flat_map, AllByRecursion, before_first, after_first, position_or_len}
use Rattle.std.proofs.lemmas.Bool.{eqb-true, and_parts, and_from}
use Rattle.std.proofs.lemmas.Bool.Decides.{nat_tests}
use Rattle.std.proofs.lemmas.List.Concat.{flat_map-cons}
use Rattle.std.proofs.lemmas.List.{take_at, drop_at}
use Rattle.std.proofs.lemmas.List.Sums.{AllPass-from_list_all, split_at_first, passes_at_first}
use Rattle.std.proofs.lemmas.Map.Views.{Contains-from_any}
use Rattle.std.proofs.lemmas.Slice.Eq.{bytes_eq-Decides}
use Rattle.ilp_packet.specs.Address.{schemes, most_address, is_scheme, is_dot, is_segment_octet, IsSegment, dotted, IsAddress, are_segments, is_address}

-- a dot stands in no segment
dot_apart : (octet : ℕ) → is_segment_octet octet ≡ true → is_dot octet ≡ false
dot_apart octet h = grind (arith, nat_tests)

-- ---- from the test to the segments

-- octets are the rest of a segment, which is begun or not, and then segments behind dots
record GoesOn (begun : Bool) (octets : List ℕ) : Type 0 where
  pub rest : List ℕ
  pub segments : List (List ℕ)
  pub allowed : list_all is_segment_octet rest ≡ true
  pub filled : begun ≡ false → 0 < length rest
  pub each : AllByRecursion IsSegment segments
  pub whole : octets ≡ rest ++ flat_map dotted segments

-- one more octet of a segment
one_more : (begun : Bool) (octet : ℕ) (octets : List ℕ) → is_segment_octet octet ≡ true → GoesOn true octets → GoesOn begun (octet ∷ octets)
one_more begun octet octets allowed h = record {
  rest = octet ∷ h.rest;
  segments = h.segments;
  allowed = and_from _ _ allowed h.allowed;
  filled = λ _. omega arith;
  each = h.each;
  whole = ap (λ (xs : List ℕ). octet ∷ xs) h.whole;
}

-- a dot, and then a segment
one_segment : (octet : ℕ) (octets : List ℕ) → is_dot octet ≡ true → GoesOn false octets → GoesOn true (octet ∷ octets)
one_segment octet octets dot h = record {
  rest = [];
  segments = h.rest ∷ h.segments;
  allowed = refl;
  filled = λ (e : true ≡ false). absurd cc;
  each = (record { filled = h.filled refl; allowed = h.allowed }, h.each);
  whole = rw (eqb-true octet 46 dot, flat_map-cons) (ap (λ (xs : List ℕ). 46 ∷ xs) h.whole);
}

by_octet : (begun : Bool) (octet : ℕ) (octets : List ℕ) (dot allowed : Bool) → is_dot octet ≡ dot → is_segment_octet octet ≡ allowed → ((b : Bool) → are_segments b octets ≡ true → GoesOn b octets) → cond dot (begun && are_segments false octets) (allowed && are_segments true octets) ≡ true → GoesOn begun (octet ∷ octets)
by_octet begun octet octets true allowed d a after passed =
    let parts = and_parts begun (are_segments false octets) passed in
    rw parts.0 (one_segment octet octets d (after false parts.1))
by_octet begun octet octets false true d a after passed = one_more begun octet octets a (after true passed)
by_octet begun octet octets false false d a after passed = absurd cc

goes_on : (begun : Bool) (octets : List ℕ) → are_segments begun octets ≡ true → GoesOn begun octets
goes_on true [] h = record { rest = []; segments = []; allowed = refl; filled = λ (e : true ≡ false). absurd cc; each = tt; whole = refl }
goes_on false [] h = absurd cc
goes_on begun (octet ∷ octets) h =
    by_octet begun octet octets (is_dot octet) (is_segment_octet octet) refl refl (λ b passed. goes_on b octets passed) h

-- ---- from the segments to the test

-- allowed octets do not end a segment
are_segments-rest : (begun : Bool) (rest more : List ℕ) → list_all is_segment_octet rest ≡ true → are_segments true more ≡ true → begun ≡ true ⊎ 0 < length rest → are_segments begun (rest ++ more) ≡ true
are_segments-rest begun [] more allowed after filled = elim filled [ inl e ↦ rw e after | inr lt ↦ absurd (omega arith) ]
are_segments-rest begun (octet ∷ rest) more allowed after filled =
    let parts = and_parts (is_segment_octet octet) (list_all is_segment_octet rest) allowed in
    rw (dot_apart octet parts.0, parts.0) (are_segments-rest true rest more parts.1 after (inl refl))

are_segments-dotted : (segments : List (List ℕ)) → AllByRecursion IsSegment segments → are_segments true (flat_map dotted segments) ≡ true
are_segments-dotted [] each = refl
are_segments-dotted (segment ∷ segments) each =
    ap (are_segments true) (flat_map-cons dotted segment segments)
    ∙ are_segments-rest false segment (flat_map dotted segments) each.0.allowed (are_segments-dotted segments each.1) (inr each.0.filled)

-- ---- the scheme

pub scheme_from_test : (text : List ℕ) → is_scheme text ≡ true → Contains schemes text
unfolding is_scheme
scheme_from_test text h =
    Contains-from_any {eq = λ a b. bytes_eq b a} (λ x y same. sym ((bytes_eq-Decides y x).0 same)) text schemes h

pub scheme_passes : (text : List ℕ) → Contains schemes text → is_scheme text ≡ true
unfolding is_scheme
scheme_passes text found =
    let each = AllPass-from_list_all is_scheme schemes refl in
    subst (λ (t : List ℕ). is_scheme t ≡ true) found.2 (each found.0 text found.1)

pub scheme_allowed : (text : List ℕ) → Contains schemes text → list_all is_segment_octet text ≡ true
scheme_allowed text found =
    let each = AllPass-from_list_all (list_all is_segment_octet) schemes refl in
    subst (λ (t : List ℕ). list_all is_segment_octet t ≡ true) found.2 (each found.0 text found.1)

-- the first dot stands behind allowed octets
position-dotted : (text more : List ℕ) → list_all is_segment_octet text ≡ true → position_or_len is_dot (text ++ 46 ∷ more) ≡ length text
position-dotted [] more allowed = refl
position-dotted (octet ∷ text) more allowed =
    let parts = and_parts (is_segment_octet octet) (list_all is_segment_octet text) allowed in
    rw (dot_apart octet parts.0, position-dotted text more parts.1) (omega arith)

-- ---- the whole

pub address_from_test : (octets : List ℕ) → is_address octets ≡ true → IsAddress octets
unfolding is_address
address_from_test octets h =
    let len_and = and_parts (nat_le (length octets) most_address) _ h in
    let parts = and_parts (is_scheme (before_first is_dot octets)) _ len_and.1 in
    let after = goes_on false (after_first is_dot octets) parts.1 in
    let short : length octets ≤ most_address = let l = len_and.0 in grind (arith, nat_tests) in
    let long : 0 < length (after_first is_dot octets) = rw after.whole (omega (arith, after.filled refl, length-append after.rest (flat_map dotted after.segments))) in
    let in_octets : position_or_len is_dot octets < length octets = omega (arith, length-drop (position_or_len is_dot octets + 1) octets) in
    let dot : get_or octets (position_or_len is_dot octets) 0 ≡ 46 = eqb-true _ _ (passes_at_first is_dot octets 0 in_octets) in
    record {
      scheme = before_first is_dot octets;
      segments = after.rest ∷ after.segments;
      known = scheme_from_test (before_first is_dot octets) parts.0;
      some = omega arith;
      each = (record { filled = after.filled refl; allowed = after.allowed }, after.each);
      whole =
          split_at_first is_dot octets 0 in_octets
          ∙ ap (λ (xs : List ℕ). before_first is_dot octets ++ xs) (rw (dot, flat_map-cons) (ap (λ (xs : List ℕ). 46 ∷ xs) after.whole));
      within = short;
    }

segments_pass : (scheme : List ℕ) (segments : List (List ℕ)) → 0 < length segments → Contains schemes scheme → AllByRecursion IsSegment segments → (is_scheme (before_first is_dot (scheme ++ flat_map dotted segments)) && are_segments false (after_first is_dot (scheme ++ flat_map dotted segments))) ≡ true
segments_pass scheme [] some known each = absurd (omega arith)
segments_pass scheme (segment ∷ segments) some known each =
    let more = segment ++ flat_map dotted segments in
    let grouped : scheme ++ flat_map dotted (segment ∷ segments) ≡ scheme ++ 46 ∷ more = ap (λ (xs : List ℕ). scheme ++ xs) (flat_map-cons dotted segment segments) in
    let place : position_or_len is_dot (scheme ++ 46 ∷ more) ≡ length scheme = position-dotted scheme more (scheme_allowed scheme known) in
    let front : before_first is_dot (scheme ++ 46 ∷ more) ≡ scheme = ap (λ n. take n (scheme ++ 46 ∷ more)) place ∙ take_at scheme (46 ∷ more) (length scheme) refl in
    let back : after_first is_dot (scheme ++ 46 ∷ more) ≡ more = ap (λ n. drop (n + 1) (scheme ++ 46 ∷ more)) place ∙ ap (drop (length scheme + 1)) (sym (append_assoc scheme (46 ∷ []) more)) ∙ drop_at (scheme ++ 46 ∷ []) more (length scheme + 1) (length-append scheme (46 ∷ [])) in
    subst (λ (xs : List ℕ). (is_scheme (before_first is_dot xs) && are_segments false (after_first is_dot xs)) ≡ true) (sym grouped)
    (rw (front, back) (and_from _ _ (scheme_passes scheme known) (are_segments-rest false segment (flat_map dotted segments) each.0.allowed (are_segments-dotted segments each.1) (inr each.0.filled))))

pub is_address-passes : (octets : List ℕ) → IsAddress octets → is_address octets ≡ true
unfolding is_address
is_address-passes octets h =
    let short = h.within in
    and_from _ _ (grind (arith, nat_tests))
    (subst (λ (xs : List ℕ). (is_scheme (before_first is_dot xs) && are_segments false (after_first is_dot xs)) ≡ true) (sym h.whole) (segments_pass h.scheme h.segments h.some h.known h.each))
