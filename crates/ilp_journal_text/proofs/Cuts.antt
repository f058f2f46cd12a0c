-- A line is cut where it ends, and its fields at its spaces.
use Rattle.std.proofs.Common.{◌≡◌, ◌≢◌, ◌⊎◌, ℕ, ◌<◌, true, false, List, [], ◌∷◌, ◌++◌, length, take, get_or, Some, None, refl, sym, ap, subst, ◌∙◌, arith, append_assoc, length-append, All, inl, inr}
use Rattle.std.specs.List.{slice_split, flat_map}
use Rattle.std.proofs.lemmas.Bool.Decides.{nat_tests}
use Rattle.std.proofs.lemmas.Bool.{cases_order, false≢true}
use Rattle.std.proofs.lemmas.List.{append-nil, get_or_append_left}
use Rattle.std.proofs.Math.Seq.{get_or-append_seam, take-append_seam}
use Rattle.std.proofs.lemmas.List.Elements.{All-nil, All-cons, All-append, All-head, All-tail, All-weaker}
use Rattle.std.proofs.lemmas.List.Splits.{slice_split_none, slice_split_at}
use Rattle.memchr.specs.Find.{IsFirstByte, is_byte}
use Rattle.ilp_journal_text.specs.Text.{after_space, line}
use Rattle.ilp_journal_text.specs.Reading.{HasNoNul}
use Rattle.ilp_journal_text.specs.Fields.{is_space, is_line_end}
use Rattle.ilp_journal_text.proofs.Ink.{IsInk, AreInk}

-- a line without its end
abbrev pub body : List ℕ → List (List ℕ) → List ℕ
body first further = first ++ flat_map after_space further

no_space : (field : List ℕ) → All IsInk field → All (λ octet. is_space octet ≡ false) field
no_space field ink = All-weaker IsInk (λ octet. is_space octet ≡ false) (λ octet visible. grind (arith, nat_tests, visible)) field ink

-- a line is cut into its fields
pub cut_fields : (first : List ℕ) (further : List (List ℕ)) → All IsInk first → AreInk further → slice_split is_space (body first further) ≡ first ∷ further
cut_fields first [] ink inks = ap (slice_split is_space) (append-nil first) ∙ slice_split_none is_space first (no_space first ink)
cut_fields first (field ∷ fields) ink inks =
    slice_split_at is_space first 32 (body field fields) (no_space first ink) refl
    ∙ ap (λ (parts : List (List ℕ)). first ∷ parts) (cut_fields field fields (All-head (All IsInk) field fields inks) (All-tail (All IsInk) field fields inks))

-- what holds of a space and of all that is no space and no line end holds of each octet before the end
module _ (P : ℕ → Type 0) (space : P 32) (of_ink : (octet : ℕ) → IsInk octet → P octet) where
  further_all : (fields : List (List ℕ)) → AreInk fields → All P (flat_map after_space fields)
  further_all [] inks = All-nil P
  further_all (field ∷ fields) inks =
      All-cons P 32 (field ++ flat_map after_space fields) space
      (All-append P field (flat_map after_space fields) (All-weaker IsInk P of_ink field (All-head (All IsInk) field fields inks)) (further_all fields (All-tail (All IsInk) field fields inks)))

  body_all : (first : List ℕ) (further : List (List ℕ)) → All IsInk first → AreInk further → All P (body first further)
  body_all first further ink inks = All-append P first (flat_map after_space further) (All-weaker IsInk P of_ink first ink) (further_all further inks)

-- no line end is in a line before its end
pub body_ink : (first : List ℕ) (further : List (List ℕ)) → All IsInk first → AreInk further → All (λ octet. is_line_end octet ≡ false) (body first further)
body_ink first further ink inks = body_all (λ octet. is_line_end octet ≡ false) refl (λ octet visible. grind (arith, nat_tests, visible)) first further ink inks

-- and no NUL in all of it
pub line_ink : (first : List ℕ) (further : List (List ℕ)) → All IsInk first → AreInk further → HasNoNul (line first further)
line_ink first further ink inks =
    let before : HasNoNul (body first further) = body_all (λ octet. octet ≢ 0) (omega arith) (λ octet visible. omega (arith, visible)) first further ink inks in
    let end : HasNoNul (10 ∷ []) = All-cons (λ octet. octet ≢ 0) 10 [] (omega arith) (All-nil (λ octet. octet ≢ 0)) in
    subst HasNoNul (append_assoc first (flat_map after_space further) (10 ∷ [])) (All-append (λ octet. octet ≢ 0) (body first further) (10 ∷ []) before end)

-- a line, its end, and what follows
pub line_parts : (first : List ℕ) (further : List (List ℕ)) (after : List ℕ) → line first further ++ after ≡ body first further ++ 10 ∷ after
line_parts first further after =
    ap (λ (octets : List ℕ). octets ++ after) (sym (append_assoc first (flat_map after_space further) (10 ∷ [])))
    ∙ append_assoc (body first further) (10 ∷ []) after

-- what stands before the first line end, and what follows it
pub cut_line : (before after : List ℕ) → All (λ octet. is_line_end octet ≡ false) before → slice_split is_line_end (before ++ 10 ∷ after) ≡ before ∷ slice_split is_line_end after
cut_line before after none = slice_split_at is_line_end before 10 after none refl

-- the first line end of a line that is ended is its own
module _ (before after : List ℕ) (none : All (λ octet. is_line_end octet ≡ false) before) where
  whole : List ℕ
  whole = before ++ 10 ∷ after

  ends : is_line_end (get_or whole (length before) 0) ≡ true
  unfolding whole
  ends = ap is_line_end (get_or-append_seam before 10 after 0)

  ends_within : length before < length whole
  unfolding whole
  ends_within = omega (arith, length-append before (10 ∷ after))

  pub first_end : (end : ℕ) → IsFirstByte (is_byte 10) (before ++ 10 ∷ after) (Some end) → take end (before ++ 10 ∷ after) ≡ before
  unfolding whole
  first_end end first = ap (λ n. take n (before ++ 10 ∷ after)) (by (cases_order end (length before))) ∙ take-append_seam before (10 ∷ after)
    where
      by : (end ≡ length before) ⊎ ((end < length before) ⊎ (length before < end)) → end ≡ length before
      by (inl same) = same
      by (inr (inl sooner)) = absurd (false≢true (sym (none end 0 sooner) ∙ ap is_line_end (sym (get_or_append_left before (10 ∷ after) 0 end sooner)) ∙ first.1))
      by (inr (inr later)) = absurd (first.0.before (length before) (omega arith) later ends)

  pub has_end : IsFirstByte (is_byte 10) (before ++ 10 ∷ after) None → ⊥
  unfolding whole
  has_end nowhere = nowhere (length before) (omega arith) ends_within ends
