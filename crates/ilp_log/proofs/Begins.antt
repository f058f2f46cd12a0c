-- Beginnings of one list.
use Rattle.std.proofs.Common.{◌≡◌, ℕ, zero, suc, ◌≤◌, List, [], ◌∷◌, ◌++◌, length, take, drop, refl, ap, sym, ◌∙◌, arith, append_assoc, length-append}
use Rattle.std.proofs.lemmas.List.{take-append-le, map-append}
use mathlib.Core.List.{IsPrefix}
use Rattle.ilp_grown_list.proofs.Begins.{prefix_trans}
use Rattle.ilp_journal.specs.Journal.{Entries}
use Rattle.ilp_line_file.specs.Text.{recovered, IsBetween}
use Rattle.ilp_log.specs.Lines.{LogForm, words_of, entry_lines, lines_of}

module _ {A : Type 0} where
  pub prefix_length : (xs ys : List A) → IsPrefix xs ys → length xs ≤ length ys
  prefix_length xs ys p = omega (arith, sym (ap length p.1) ∙ length-append xs p.0)

  pub prefix_take : (xs ys : List A) (n : ℕ) → IsPrefix xs ys → n ≤ length xs → take n ys ≡ take n xs
  prefix_take xs ys n p le = ap (λ (l : List A). take n l) (sym p.1) ∙ take-append-le n xs p.0 le

  -- both without their first n elements
  prefix_drop : (n : ℕ) (xs ys : List A) → IsPrefix xs ys → IsPrefix (drop n xs) (drop n ys)
  prefix_drop zero xs ys p = p
  prefix_drop (suc n) [] ys p = (drop (suc n) ys, refl)
  prefix_drop (suc n) (x ∷ xs) [] p = absurd (cc (p.1))
  prefix_drop (suc n) (x ∷ xs) (y ∷ ys) p = prefix_drop n xs ys (p.0, cc (p.1))

  -- a beginning of at most m begins the first m
  pub in_take : (xs ys : List A) (m : ℕ) → IsPrefix xs ys → length xs ≤ m → IsPrefix xs (take m ys)
  in_take [] ys m p le = (take m ys, refl)
  in_take (x ∷ xs) [] m p le = absurd (cc (p.1))
  in_take (x ∷ xs) (y ∷ ys) zero p le = absurd (omega arith)
  in_take (x ∷ xs) (y ∷ ys) (suc m) p le = let rest = in_take xs ys m (p.0, cc (p.1)) (omega arith) in (rest.0, cc (p.1, rest.1))

  take_begins : (xs : List A) (n m : ℕ) → n ≤ m → IsPrefix (take n xs) (take m xs)
  take_begins xs zero m le = (take m xs, refl)
  take_begins xs (suc n) zero le = absurd (omega arith)
  take_begins [] (suc n) (suc m) le = ([], refl)
  take_begins (x ∷ xs) (suc n) (suc m) le = let rest = take_begins xs n m (omega arith) in (rest.0, ap (λ (l : List A). x ∷ l) rest.1)

  pub takes : (xs ys : List A) (n m : ℕ) → IsPrefix xs ys → n ≤ length xs → n ≤ m → IsPrefix (take n xs) (take m ys)
  takes xs ys n m p le more = let b = take_begins ys n m more in (b.0, ap (λ (l : List A). l ++ b.0) (sym (prefix_take xs ys n p le)) ∙ b.1)

-- the lines of a beginning begin those of the whole
pub lines_begin : (form : LogForm) (xs ys : Entries) → IsPrefix xs ys → IsPrefix (lines_of form xs) (lines_of form ys)
lines_begin form xs ys p =
    let rest = prefix_drop form.base xs ys p in
    let more = entry_lines form.config rest.0 in (
      more,
      append_assoc form.head (entry_lines form.config (drop form.base xs)) more
          ∙ ap (λ (l : List (List ℕ)). form.head ++ l) (sym (map-append (words_of form.config) (drop form.base xs) rest.0) ∙ ap (entry_lines form.config) rest.1),
    )

pub wider : (least most least' most' : List (List ℕ)) (c : List ℕ) → IsPrefix least' least → IsPrefix most most' → IsBetween least most c → IsBetween least' most' c
wider least most least' most' c low high is = record { has = prefix_trans least' least (recovered c) low is.has; begins = prefix_trans (recovered c) most most' is.begins high }
