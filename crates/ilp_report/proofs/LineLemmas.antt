-- How a line is made of its columns.
use Rattle.std.proofs.Common.{◌≡◌, ℕ, ℤ, FitsSigned, to_z, of_z, ◌≤◌, List, [], ◌∷◌, ◌++◌, length, take, drop, ap, ◌∙◌, arith, append_assoc, length-append, length-drop}
use Rattle.std.proofs.lemmas.List.{length-take, length-replicate, drop-drop}
use Rattle.std.proofs.lemmas.Slice.{take-put_mid, drop-put_mid, drop-append-drop}
use Rattle.std.proofs.Math.Seq.{take-append_seam}
use Rattle.std.specs.Fmt.{signed_decimal}
use Rattle.std.specs.Int.{w128}
use Rattle.std.proofs.lemmas.Int.{to_z-of_z}
use Rattle.ilp_report.specs.Report.{left, right, line}
use Rattle.ilp_report.specs.Columns.{IsShort, IsNarrow}
use borrow.Rule.Slice.PartMut.{put_mid}

-- columns of these widths, in place of what stood in a line, leave room for a third
pub columns_fit : (a b s : List ℕ) → length a ≡ 10 → length b ≡ 20 → length s ≡ 61 → 60 ≤ length (put_mid 10 20 (a ++ drop 10 s) b)
columns_fit a b s wide_a wide_b wide = simp (length-append, length-take, length-drop) (omega arith)

-- how wide the second and the third column are
pub name_width : (a s : List ℕ) → length a ≡ 10 → length s ≡ 61 → length (take 20 (drop 10 (a ++ drop 10 s))) ≡ 20
name_width a s wide_a wide = simp (length-take, length-drop, length-append) (omega arith)

pub number_width : (a b s : List ℕ) → length a ≡ 10 → length b ≡ 20 → length s ≡ 61 → length (take 30 (drop 30 (put_mid 10 20 (a ++ drop 10 s) b))) ≡ 30
number_width a b s wide_a wide_b wide = simp (length-take, length-drop, length-append) (omega arith)

-- three columns of these widths, and what stood after them
pub columns_stand : (a b c s : List ℕ) → length a ≡ 10 → length b ≡ 20 → length c ≡ 30 → length s ≡ 61
    → put_mid 30 30 (put_mid 10 20 (a ++ drop 10 s) b) c ≡ a ++ (b ++ (c ++ drop 60 s))
columns_stand a b c s wide_a wide_b wide_c wide =
    let x : List ℕ = a ++ drop 10 s in
    let p : List ℕ = put_mid 10 20 x b in
    let first : take 10 x ≡ a = rw wide_a at (take-append_seam a (drop 10 s)) in
    let fits : 10 ≤ length x = omega (arith, length-append a (drop 10 s)) in
    let front : take 30 p ≡ a ++ b = take-put_mid 10 20 x b 30 (omega arith) fits ∙ ap (λ (xs : List ℕ). xs ++ b) first in
    let behind : drop 60 x ≡ drop 60 s = drop-append-drop 10 s a 60 (omega arith) wide_a in
    let back : drop 30 (drop 30 p) ≡ drop 60 s = drop-drop 30 30 p ∙ drop-put_mid 10 20 x b 60 (omega arith) fits wide_b ∙ behind in
    ap (λ (xs : List ℕ). xs ++ (c ++ drop 30 (drop 30 p))) front ∙ append_assoc a b (c ++ drop 30 (drop 30 p)) ∙ ap (λ (xs : List ℕ). a ++ (b ++ (c ++ xs))) back

-- a column is as wide as it is
pub length-left : (width : ℕ) (text : List ℕ) → length text ≤ width → length (left width text) ≡ width
length-left width text short = simp (length-append, length-replicate) (omega arith)

pub length-right : (width : ℕ) (text : List ℕ) → length text ≤ width → length (right width text) ≡ width
length-right width text short = simp (length-append, length-replicate) (omega arith)

-- a line whose parts fit their columns
pub length-line : (label name : List ℕ) (number : ℤ) → length label ≤ 10 → IsShort name → IsNarrow number → length (line label name number) ≡ 61
unfolding line
length-line label name number short_label short_name narrow =
    let a = length-left 10 label short_label in
    let b = length-left 20 name short_name in
    let digits = signed_decimal number in
    let c = length-right 30 digits narrow in
    let rest = right 30 digits ++ 10 ∷ [] in
    omega (arith, a, b, c, length-append (left 10 label) (left 20 name ++ rest), length-append (left 20 name) rest, length-append (right 30 digits) (10 ∷ []))

-- a line, by the name and the number that it tells
pub line_told : (label name name' : List ℕ) (number number' : ℤ) → FitsSigned w128 number → name ≡ name' → number ≡ number' → line label name (to_z w128 (of_z w128 number)) ≡ line label name' number'
line_told label name name' number number' fits same_name same_number = ap (line label name) (to_z-of_z w128 number fits ∙ same_number) ∙ ap (λ (n : List ℕ). line label n number') same_name
