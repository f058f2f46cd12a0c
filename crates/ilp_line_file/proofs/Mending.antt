-- What a cut behind the whole lines makes of a file.
use Rattle.std.proofs.Common.{◌≡◌, ℕ, zero, suc, ◌+◌, ◌-◌, ◌≤◌, List, [], ◌∷◌, ◌++◌, length, take, drop, sym, ◌∙◌, ap, subst, arith, length-append, length-drop, take-append-drop}
use Rattle.std.proofs.lemmas.List.{append-nil, take_all, drop_all}
use Rattle.ilp_line_file.specs.Device.{Cut}
use Rattle.ilp_line_file.specs.Text.{recovered, text_of, IsBlank}
use Rattle.ilp_line_file.proofs.Whole.{recovered-text_of, are_lines, parts, front_nothing}

take_past : (xs ys : List ℕ) (m n : ℕ) → m ≡ length xs + n → take m (xs ++ ys) ≡ xs ++ take n ys
take_past [] ys m n is = let same : m ≡ n = omega arith in ap (λ (k : ℕ). take k ys) same
take_past (x ∷ xs) ys zero n is = absurd (omega arith)
take_past (x ∷ xs) ys (suc m) n is = ap (λ (l : List ℕ). x ∷ l) (take_past xs ys m n (omega arith))

-- any cut behind them keeps the lines
pub cut_keeps : (file : List ℕ) (end : ℕ) (c : List ℕ) → end ≤ length file → take end file ≡ text_of (recovered file) → Cut end file c → recovered c ≡ recovered file
cut_keeps file end c within begins cut =
    let lines = recovered file in
    let p = parts [] file tt in
    let size : length (text_of lines) ≡ end = omega (arith, ap length (sym begins), ap length (take-append-drop end file), length-append (take end file) (drop end file), length-drop end file, within) in
    let n = length c - end in
    let m : length c ≡ length (text_of lines) + n = omega (arith, cut.no_shorter, size) in
    let is : c ≡ text_of lines ++ take n p.rest = sym cut.front ∙ ap (λ (t : List ℕ). take (length c) t) (sym p.split) ∙ take_past (text_of lines) p.rest (length c) n m in
    ap recovered is ∙ recovered-text_of lines (take n p.rest) (are_lines [] file tt) ∙ ap (λ (l : List (List ℕ)). lines ++ l) (front_nothing n [] p.rest p.nothing) ∙ append-nil lines

pub record Mended (file : List ℕ) (end : ℕ) (new : List ℕ) : Type 0 where
  pub same : recovered new ≡ recovered file
  pub within : end ≤ length new
  pub begins : take end new ≡ text_of (recovered new)
  pub blank : IsBlank (drop end new)

pub mended : (file : List ℕ) (end : ℕ) (new : List ℕ) (size : ℕ) → end ≤ length file → take end file ≡ text_of (recovered file) → new ≡ take end file → size ≡ length (take end file) → Mended file size new
mended file end new size within begins is size_is =
    let text : new ≡ text_of (recovered file) = is ∙ begins in
    let same : recovered new ≡ recovered file = ap recovered (text ∙ sym (append-nil (text_of (recovered file)))) ∙ recovered-text_of (recovered file) [] (are_lines [] file tt) ∙ append-nil (recovered file) in
    let n : size ≡ length new = size_is ∙ ap length (sym is) in
    record {
      same = same;
      within = omega arith;
      begins = take_all size new (omega arith) ∙ text ∙ ap text_of (sym same);
      blank = subst IsBlank (sym (drop_all size new (omega arith))) tt;
    }
