-- The first lines of texts: each is a line, and names one period.
use Rattle.std.proofs.Common.{◌≡◌, ◌≢◌, ℕ, ◌^◌, ◌<◌, Bool, true, false, cond, ◌==◌, List, [], ◌∷◌, ◌++◌, length, slice_index, slice_index_or, refl, sym, ap, subst, ◌∙◌, arith, All}
use Rattle.std.specs.Prelude.{codes, Option, Some, None, MatchOption}
use Rattle.std.specs.List.{slice_split}
use Rattle.std.specs.Fmt.{decimal}
use Rattle.std.specs.Str.Parse.{digits_value}
use Rattle.std.proofs.lemmas.Bool.{eqb-true, eqb-false, ne_eqb}
use Rattle.std.proofs.lemmas.List.{append-nil, append_cancel_left}
use Rattle.std.proofs.lemmas.List.Elements.{All-nil, All-cons}
use Rattle.ilp_journal_text.specs.Text.{line, first_line}
use Rattle.ilp_journal_text.specs.Reading.{IsLine}
use Rattle.ilp_journal_text.specs.Fields.{is_space, is_line_end}
use Rattle.ilp_journal_text.proofs.Ink.{IsInk, AreInk, decimal_ink, word_ink}
use Rattle.ilp_journal_text.proofs.Cuts.{body, body_ink, cut_fields, cut_line, line_parts}
use Rattle.ilp_journal_text.proofs.Inverse.{number_back}

-- what follows the first word: the form, and the number of a period above 0
abbrev form : ℕ → List (List ℕ)
form period = cond (period == 0) (codes "1" ∷ []) (codes "2" ∷ decimal period ∷ [])

form_ink : (period : ℕ) → period < 2 ^ 32 → AreInk (form period)
form_ink period fits = by (period == 0)
  where
    by : (b : Bool) → AreInk (cond b (codes "1" ∷ []) (codes "2" ∷ decimal period ∷ []))
    by true = All-cons (All IsInk) (codes "1") [] (word_ink (codes "1") refl) (All-nil (All IsInk))
    by false =
        All-cons (All IsInk) (codes "2") (decimal period ∷ []) (word_ink (codes "2") refl)
        (All-cons (All IsInk) (decimal period) [] (decimal_ink period (omega (arith, fits))) (All-nil (All IsInk)))

-- the first line without its end
abbrev pub first_body : ℕ → List ℕ
first_body period = body (codes "ilp-journal") (form period)

pub first_clean : (period : ℕ) → period < 2 ^ 32 → All (λ octet. is_line_end octet ≡ false) (first_body period)
first_clean period fits = body_ink (codes "ilp-journal") (form period) (word_ink (codes "ilp-journal") refl) (form_ink period fits)

pub first_parts : (period : ℕ) (after : List ℕ) → first_line period ++ after ≡ first_body period ++ 10 ∷ after
first_parts period after = by (period == 0)
  where
    by : (b : Bool) → cond b (codes "ilp-journal 1\n") (line (codes "ilp-journal") (codes "2" ∷ decimal period ∷ [])) ++ after
        ≡ body (codes "ilp-journal") (cond b (codes "1" ∷ []) (codes "2" ∷ decimal period ∷ [])) ++ 10 ∷ after
    by true = refl
    by false = line_parts (codes "ilp-journal") (codes "2" ∷ decimal period ∷ []) after

-- it is a line
pub first_is_line : (period : ℕ) → period < 2 ^ 32 → IsLine (first_line period)
first_is_line period fits = record {
  body = first_body period;
  whole = sym (append-nil (first_line period)) ∙ first_parts period [];
  clean = first_clean period fits;
}

-- that of a period above 0 ends with its number
pub later_body : (period : ℕ) → 0 < period → first_body period ≡ codes "ilp-journal 2 " ++ decimal period
later_body period later =
    let above : (period == 0) ≡ false = ne_eqb period 0 (λ e. omega (arith, e, later)) in
    ap (λ (b : Bool). body (codes "ilp-journal") (cond b (codes "1" ∷ []) (codes "2" ∷ decimal period ∷ []))) above
    ∙ ap (λ (digits : List ℕ). codes "ilp-journal 2 " ++ digits) (append-nil (decimal period))

-- what follows the form of a later period is its number
pub later_number : (period : ℕ) (field : List ℕ) → first_body period ≡ codes "ilp-journal 2 " ++ field → field ≡ decimal period
later_number period field same = by (period == 0) refl
  where
    by : (b : Bool) → (period == 0) ≡ b → field ≡ decimal period
    by true is =
        let first : first_body 0 ≡ codes "ilp-journal 2 " ++ field = subst (λ (n : ℕ). first_body n ≡ codes "ilp-journal 2 " ++ field) (eqb-true period 0 is) same in
        absurd (omega (arith, ap (λ (octets : List ℕ). slice_index octets 12) first))
    by false is =
        let above : period ≢ 0 = eqb-false period 0 is in
        append_cancel_left (codes "ilp-journal 2 ") field (decimal period) (sym same ∙ later_body period (omega (arith, above)))

-- without that form it is the line of the first period
pub first_of_all : (period : ℕ) → ((field : List ℕ) → first_body period ≢ codes "ilp-journal 2 " ++ field) → period ≡ 0
first_of_all period other = by (period == 0) refl
  where
    by : (b : Bool) → (period == 0) ≡ b → period ≡ 0
    by true is = eqb-true period 0 is
    by false is =
        let above : period ≢ 0 = eqb-false period 0 is in
        absurd (other (decimal period) (later_body period (omega (arith, above))))

-- so what a line has behind that form tells its period
pub told_number : {R : Type 0} (now : R → List ℕ) (period : ℕ) (line : List ℕ) (found : Option R) → line ≡ first_body period
    → MatchOption found ((after : List ℕ) → line ≢ codes "ilp-journal 2 " ++ after) (λ x. line ≡ codes "ilp-journal 2 " ++ now x)
    → MatchOption found (period ≡ 0) (λ x. now x ≡ decimal period)
told_number now period line None is cases = first_of_all period (λ field same. cases field (is ∙ same))
told_number now period line (Some x) is cases = later_number period (now x) (sym is ∙ cases)

-- and it is that of one period
module _ (p q : ℕ) (fits_p : p < 2 ^ 32) (fits_q : q < 2 ^ 32) where
  one_period : first_body p ≡ first_body q → p ≡ q
  one_period same =
      let cut_p = cut_fields (codes "ilp-journal") (form p) (word_ink (codes "ilp-journal") refl) (form_ink p fits_p) in
      let cut_q = cut_fields (codes "ilp-journal") (form q) (word_ink (codes "ilp-journal") refl) (form_ink q fits_q) in
      let fields : codes "ilp-journal" ∷ form p ≡ codes "ilp-journal" ∷ form q = sym cut_p ∙ ap (slice_split is_space) same ∙ cut_q in
      let forms : form p ≡ form q = cc in
      by (p == 0) (q == 0) refl refl forms
    where
      by : (a b : Bool) → (p == 0) ≡ a → (q == 0) ≡ b
          → cond a (codes "1" ∷ []) (codes "2" ∷ decimal p ∷ []) ≡ cond b (codes "1" ∷ []) (codes "2" ∷ decimal q ∷ []) → p ≡ q
      by true true is_p is_q forms = eqb-true p 0 is_p ∙ sym (eqb-true q 0 is_q)
      by true false is_p is_q forms = absurd (omega (arith, ap length forms))
      by false true is_p is_q forms = absurd (omega (arith, ap length forms))
      by false false is_p is_q forms =
          let digits : decimal p ≡ decimal q = ap (λ (fields : List (List ℕ)). slice_index_or fields 1 []) forms in
          sym (number_back p (omega (arith, fits_p))) ∙ ap (digits_value 10) digits ∙ number_back q (omega (arith, fits_q))

  pub same_first : (x y : List ℕ) → first_line p ++ x ≡ first_line q ++ y → (p ≡ q) × (x ≡ y)
  same_first x y same =
      let cut_p = ap (slice_split is_line_end) (first_parts p x) ∙ cut_line (first_body p) x (first_clean p fits_p) in
      let cut_q = ap (slice_split is_line_end) (first_parts q y) ∙ cut_line (first_body q) y (first_clean q fits_q) in
      let both = sym cut_p ∙ ap (slice_split is_line_end) same ∙ cut_q in
      let bodies : first_body p ≡ first_body q = ap (λ (parts : List (List ℕ)). slice_index_or parts 0 []) both in
      let periods : p ≡ q = one_period bodies in
      (periods, append_cancel_left (first_line q) x y (ap (λ (n : ℕ). first_line n ++ x) (sym periods) ∙ same))
