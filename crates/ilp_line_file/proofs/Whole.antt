-- Which lines a text, its beginnings and its torn writes stand for.
use Rattle.std.proofs.Common.{◌≡◌, ◌≢◌, ◌⊎◌, inl, inr, ℕ, zero, suc, List, [], ◌∷◌, ◌++◌, take, drop, refl, sym, ◌∙◌, ap, subst, arith, append_assoc}
use Rattle.std.proofs.lemmas.Bool.{cases_eq}
use Rattle.std.proofs.lemmas.Bool.Decides.{nat_tests}
use Rattle.std.proofs.lemmas.List.{append-nil}
use mathlib.Core.List.{IsPrefix}
use Rattle.ilp_line_file.specs.Device.{IsMixed}
use Rattle.ilp_line_file.specs.Text.{lines_from, recovered, text_of, IsLine, AreLines, IsBlank}

-- ---- one octet

pub lines_nul : (part : List ℕ) (b : ℕ) (octets : List ℕ) → b ≡ 0 → lines_from part (b ∷ octets) ≡ []
lines_nul part b octets is = grind (arith, nat_tests)

pub lines_feed : (part : List ℕ) (b : ℕ) (octets : List ℕ) → b ≡ 10 → lines_from part (b ∷ octets) ≡ part ∷ lines_from [] octets
lines_feed part b octets is = grind (arith, nat_tests)

pub lines_octet : (part : List ℕ) (b : ℕ) (octets : List ℕ) → b ≢ 0 → b ≢ 10 → lines_from part (b ∷ octets) ≡ lines_from (part ++ b ∷ []) octets
lines_octet part b octets not_nul not_feed = grind (arith, nat_tests)

pub line_snoc : (part : List ℕ) (b : ℕ) → IsLine part → b ≢ 0 → b ≢ 10 → IsLine (part ++ b ∷ [])
line_snoc [] b line not_nul not_feed = (not_nul, not_feed, tt)
line_snoc (p ∷ part) b line not_nul not_feed = (line.0, line.1, line_snoc part b line.2 not_nul not_feed)

-- ---- whole lines

pub through : (part line rest : List ℕ) → IsLine line → lines_from part (line ++ rest) ≡ lines_from (part ++ line) rest
through part [] rest line = ap (λ (p : List ℕ). lines_from p rest) (sym (append-nil part))
through part (b ∷ octets) rest line =
    lines_octet part b (octets ++ rest) line.0 line.1
    ∙ through (part ++ b ∷ []) octets rest line.2
    ∙ ap (λ (p : List ℕ). lines_from p rest) (append_assoc part (b ∷ []) octets)

-- a text, and then whatever the rest stands for
pub recovered-text_of : (lines : List (List ℕ)) (rest : List ℕ) → AreLines lines → recovered (text_of lines ++ rest) ≡ lines ++ recovered rest
recovered-text_of [] rest are = refl
recovered-text_of (line ∷ lines) rest are =
    ap recovered (append_assoc line (10 ∷ text_of lines) rest)
    ∙ through [] line (10 ∷ (text_of lines ++ rest)) are.0
    ∙ ap (λ (l : List (List ℕ)). line ∷ l) (recovered-text_of lines rest are.1)

pub are_lines : (part file : List ℕ) → IsLine part → AreLines (lines_from part file)
are_lines part [] line = tt
are_lines part (b ∷ octets) line = elim (cases_eq b 0) [
  | inl nul ↦ subst AreLines (sym (lines_nul part b octets nul)) tt
  | inr not_nul ↦ elim (cases_eq b 10) [
    | inl feed ↦ subst AreLines (sym (lines_feed part b octets feed)) (line, are_lines [] octets tt)
    | inr not_feed ↦ subst AreLines (sym (lines_octet part b octets not_nul not_feed)) (are_lines (part ++ b ∷ []) octets (line_snoc part b line not_nul not_feed))
  ]
]

pub text_of-append : (xs ys : List (List ℕ)) → text_of (xs ++ ys) ≡ text_of xs ++ text_of ys
text_of-append [] ys = refl
text_of-append (line ∷ xs) ys = ap (λ (t : List ℕ). line ++ 10 ∷ t) (text_of-append xs ys) ∙ sym (append_assoc line (10 ∷ text_of xs) (text_of ys))

-- a text of lines, read back
pub text_lines : (lines : List (List ℕ)) → AreLines lines → recovered (text_of lines) ≡ lines
text_lines lines are = ap recovered (sym (append-nil (text_of lines))) ∙ recovered-text_of lines [] are ∙ append-nil lines

-- ---- what stands behind the lines

-- a file is the text of its lines, and an end that stands for nothing
pub record Parts (part file : List ℕ) : Type 0 where
  pub rest : List ℕ
  pub split : text_of (lines_from part file) ++ rest ≡ part ++ file
  pub nothing : recovered rest ≡ []

pub parts : (part file : List ℕ) → IsLine part → Parts part file
parts part [] line = record {
  rest = part;
  split = sym (append-nil part);
  nothing = ap recovered (sym (append-nil part)) ∙ through [] part [] line;
}
parts part (b ∷ octets) line = elim (cases_eq b 0) [
  | inl nul ↦ record {
    rest = part ++ b ∷ octets;
    split = ap (λ (l : List (List ℕ)). text_of l ++ (part ++ b ∷ octets)) (lines_nul part b octets nul);
    nothing = through [] part (b ∷ octets) line ∙ lines_nul part b octets nul;
  }
  | inr not_nul ↦ elim (cases_eq b 10) [
    | inl feed ↦
        let more = parts [] octets tt in
        record {
          rest = more.rest;
          split = ap (λ (l : List (List ℕ)). text_of l ++ more.rest) (lines_feed part b octets feed)
              ∙ append_assoc part (10 ∷ text_of (lines_from [] octets)) more.rest
              ∙ ap (λ (t : List ℕ). part ++ 10 ∷ t) more.split
              ∙ ap (λ (k : ℕ). part ++ k ∷ octets) (sym feed);
          nothing = more.nothing;
        }
    | inr not_feed ↦
        let more = parts (part ++ b ∷ []) octets (line_snoc part b line not_nul not_feed) in
        record {
          rest = more.rest;
          split = ap (λ (l : List (List ℕ)). text_of l ++ more.rest) (lines_octet part b octets not_nul not_feed) ∙ more.split ∙ append_assoc part (b ∷ []) octets;
          nothing = more.nothing;
        }
  ]
]

-- nor does the front of such an end
pub front_nothing : (n : ℕ) (part rest : List ℕ) → lines_from part rest ≡ [] → lines_from part (take n rest) ≡ []
front_nothing zero part rest none = refl
front_nothing (suc n) part [] none = refl
front_nothing (suc n) part (b ∷ rest) none = elim (cases_eq b 0) [
  | inl nul ↦ lines_nul part b (take n rest) nul
  | inr not_nul ↦ elim (cases_eq b 10) [
    | inl feed ↦ absurd (cc (lines_feed part b rest feed, none))
    | inr not_feed ↦
        lines_octet part b (take n rest) not_nul not_feed
        ∙ front_nothing n (part ++ b ∷ []) rest (sym (lines_octet part b rest not_nul not_feed) ∙ none)
  ]
]

-- ---- torn writes

pub blank_nothing : (part old : List ℕ) → IsBlank old → lines_from part old ≡ []
blank_nothing part [] blank = refl
blank_nothing part (b ∷ old) blank = lines_nul part b old blank.0

pub blank_drop : (n : ℕ) (old : List ℕ) → IsBlank old → IsBlank (drop n old)
blank_drop zero old blank = blank
blank_drop (suc n) [] blank = tt
blank_drop (suc n) (b ∷ old) blank = blank_drop n old blank.1

nothing_begins : (xs ys : List (List ℕ)) → xs ≡ [] → IsPrefix xs ys
nothing_begins xs ys none = (ys, ap (λ (l : List (List ℕ)). l ++ ys) none)

one_more : (part : List ℕ) (b m : ℕ) (octets mixed : List ℕ) → (m ≡ b) ⊎ (m ≡ 0) → ((p : List ℕ) → IsPrefix (lines_from p mixed) (lines_from p octets)) → IsPrefix (lines_from part (m ∷ mixed)) (lines_from part (b ∷ octets))
one_more part b m octets mixed (inr nul) rest = nothing_begins _ _ (lines_nul part m mixed nul)
one_more part b m octets mixed (inl same) rest = elim (cases_eq m 0) [
  | inl nul ↦ nothing_begins _ _ (lines_nul part m mixed nul)
  | inr not_nul ↦ elim (cases_eq m 10) [
    | inl feed ↦
        let more = rest [] in
        (more.0, ap (λ (l : List (List ℕ)). l ++ more.0) (lines_feed part m mixed feed) ∙ ap (λ (l : List (List ℕ)). part ∷ l) more.1 ∙ sym (lines_feed part b octets (sym same ∙ feed)))
    | inr not_feed ↦
        let more = rest (part ++ m ∷ []) in (
          more.0,
          ap (λ (l : List (List ℕ)). l ++ more.0) (lines_octet part m mixed not_nul not_feed) ∙ more.1
              ∙ sym (lines_octet part m octets not_nul not_feed) ∙ ap (λ (k : ℕ). lines_from part (k ∷ octets)) same,
        )
  ]
]

-- A write over zeros or past the end that a crash cuts short stands for a beginning of its lines.
pub torn_begins : (old octets mixed part : List ℕ) → IsBlank old → IsMixed old octets mixed → IsPrefix (lines_from part mixed) (lines_from part octets)
torn_begins old [] mixed part blank is = nothing_begins _ _ (ap (lines_from part) is ∙ blank_nothing part old blank)
torn_begins [] (b ∷ octets) [] part blank is = nothing_begins _ _ refl
torn_begins [] (b ∷ octets) (m ∷ mixed) part blank is = one_more part b m octets mixed is.0 (λ p. torn_begins [] octets mixed p tt is.1)
torn_begins (o ∷ old) (b ∷ octets) [] part blank is = absurd is
torn_begins (o ∷ old) (b ∷ octets) (m ∷ mixed) part blank is =
    one_more part b m octets mixed (elim is.0 [ inl new ↦ inl new | inr same ↦ inr (same ∙ blank.0) ]) (λ p. torn_begins old octets mixed p blank.1 is.1)
