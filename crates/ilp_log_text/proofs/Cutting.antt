-- A text is cut behind its first line.
use Rattle.std.proofs.Common.{◌≡◌, ◌⊎◌, inl, inr, ℕ, zero, suc, ◌+◌, ◌-◌, ◌≤◌, ◌<◌, true, List, [], ◌∷◌, ◌++◌, length, take, drop, get_or, Some, None, refl, sym, ◌∙◌, ap, subst, arith, add-one, append_assoc, length-append, length-drop}
use Rattle.std.proofs.lemmas.Bool.{cases_order}
use Rattle.std.proofs.lemmas.Bool.Decides.{nat_tests}
use Rattle.std.proofs.lemmas.List.{get_or_append_left, take_at, take_all, drop_at, drop_all}
use Rattle.std.proofs.Math.Seq.{get_or-append_seam}
use Rattle.memchr.specs.Find.{IsFirstByte, is_byte}
use Rattle.ilp_line_file.specs.Text.{recovered, text_of, IsLine, AreLines, IsText}
use Rattle.ilp_line_file.proofs.Whole.{are_lines, text_lines}
use Rattle.ilp_log_text.specs.Lines.{CutsLine}

-- the text of the lines of a file
pub whole_text : (octets text : List ℕ) → text ≡ text_of (recovered octets) → IsText text × (recovered text ≡ recovered octets)
whole_text octets text is =
    let same : recovered text ≡ recovered octets = ap recovered is ∙ text_lines (recovered octets) (are_lines [] octets tt) in
    (is ∙ ap text_of (sym same), same)

-- ---- the first line feed

feeds_not : (line : List ℕ) (k : ℕ) → IsLine line → k < length line → get_or line k 0 ≡ 10 → ⊥
feeds_not [] k is lt = absurd (omega arith)
feeds_not (b ∷ line) zero is lt = is.1
feeds_not (b ∷ line) (suc k) is lt = feeds_not line k is.2 (omega arith)

module _ (line rest : List ℕ) (is : IsLine line) where
  feed_at : is_byte 10 (get_or (line ++ 10 ∷ rest) (length line) 0) ≡ true
  feed_at = ap (is_byte 10) (get_or-append_seam line 10 rest 0)

  feed_within : length line < length (line ++ 10 ∷ rest)
  feed_within = omega (arith, length-append line (10 ∷ rest))

  first_feed : (end : ℕ) → IsFirstByte (is_byte 10) (line ++ 10 ∷ rest) (Some end) → end ≡ length line
  first_feed end first = by (cases_order end (length line))
    where
      by : (end ≡ length line) ⊎ ((end < length line) ⊎ (length line < end)) → end ≡ length line
      by (inl same) = same
      by (inr (inl sooner)) =
          let reads : is_byte 10 (get_or line end 0) ≡ true = ap (is_byte 10) (sym (get_or_append_left line (10 ∷ rest) 0 end sooner)) ∙ first.1 in
          let feed : get_or line end 0 ≡ 10 = grind (arith, nat_tests, reads) in
          absurd (feeds_not line end is sooner feed)
      by (inr (inr later)) = absurd (first.0.before (length line) (omega arith) later feed_at)

  has_feed : IsFirstByte (is_byte 10) (line ++ 10 ∷ rest) None → ⊥
  has_feed nowhere = nowhere (length line) (omega arith) feed_within feed_at

module _ (text : List ℕ) (is_text : IsText text) where
  -- a text that has a line feed
  first_cut : (end : ℕ) → IsFirstByte (is_byte 10) text (Some end) → CutsLine text (take end text) (drop (end + 1) text)
  first_cut end first = by (recovered text) is_text refl (are_lines [] text tt)
    where
      by : (lines : List (List ℕ)) → text ≡ text_of lines → recovered text ≡ lines → AreLines lines → CutsLine text (take end text) (drop (end + 1) text)
      by [] whole same are = absurd (omega (arith, first.0.high, ap length whole))
      by (line ∷ lines) whole same are =
          let rest = text_of lines in
          let at : end ≡ length line = first_feed line rest are.0 end (subst (λ (t : List ℕ). IsFirstByte (is_byte 10) t (Some end)) whole first) in
          let front : take end text ≡ line = ap (take end) whole ∙ take_at line (10 ∷ rest) end (sym at) in
          let ended : length (line ++ 10 ∷ []) ≡ end + 1 = omega (arith, length-append line (10 ∷ []), at) in
          let back : drop (end + 1) text ≡ rest = ap (drop (end + 1)) (whole ∙ sym (append_assoc line (10 ∷ []) rest)) ∙ drop_at (line ++ 10 ∷ []) rest (end + 1) ended in
          let further : recovered (drop (end + 1) text) ≡ lines = ap recovered back ∙ text_lines lines are.1 in
          record {
            first = same ∙ ap (λ (l : List ℕ). l ∷ lines) (sym front) ∙ ap (λ (l : List (List ℕ)). take end text ∷ l) (sym further);
            behind = back ∙ ap text_of (sym further);
          }

  -- the same, with what is behind as a range of the text
  pub range_cut : (end : ℕ) → IsFirstByte (is_byte 10) text (Some end) → CutsLine text (take end text) (take (length text - (end + 1)) (drop (end + 1) text))
  range_cut end first =
      let all : take (length text - (end + 1)) (drop (end + 1) text) ≡ drop (end + 1) text = take_all (length text - (end + 1)) (drop (end + 1) text) (omega (arith, length-drop (end + 1) text)) in
      subst (λ (behind : List ℕ). CutsLine text (take end text) behind) (sym all) (first_cut end first)

  -- and one that has none
  pub no_cut : IsFirstByte (is_byte 10) text None → recovered text ≡ []
  no_cut nowhere = by (recovered text) is_text refl (are_lines [] text tt)
    where
      by : (lines : List (List ℕ)) → text ≡ text_of lines → recovered text ≡ lines → AreLines lines → recovered text ≡ []
      by [] whole same are = same
      by (line ∷ lines) whole same are = absurd (has_feed line (text_of lines) are.0 (subst (λ (t : List ℕ). IsFirstByte (is_byte 10) t None) whole nowhere))

-- ---- one line after another

module _ {A : Type 0} where
  behind_next : (n : ℕ) (xs : List A) (x : A) (ys : List A) → drop n xs ≡ x ∷ ys → drop (suc n) xs ≡ ys
  behind_next zero [] x ys is = absurd (cc)
  behind_next zero (y ∷ xs) x ys is = cc
  behind_next (suc n) [] x ys is = absurd (cc)
  behind_next (suc n) (y ∷ xs) x ys is = behind_next n xs x ys is

  pub drop_next : (n : ℕ) (xs : List A) (x : A) (ys : List A) → drop n xs ≡ x ∷ ys → drop (n + 1) xs ≡ ys
  drop_next n xs x ys is = rw add-one (behind_next n xs x ys is)

  pub drop_past : (n m : ℕ) (xs : List A) → n ≤ m → drop n xs ≡ [] → drop m xs ≡ []
  drop_past n m xs le none = drop_all m xs (omega (arith, length-drop n xs, ap length none, le))
