-- What an append and a repair make of a file.
use Rattle.std.proofs.Common.{◌≡◌, ℕ, zero, suc, ◌+◌, ◌≤◌, List, [], ◌∷◌, ◌++◌, length, take, drop, refl, sym, ◌∙◌, ap, subst, arith, append_assoc, length-append, take-append-drop, length-drop}
use Rattle.std.proofs.lemmas.List.{append-nil, take_at, drop_at}
use mathlib.Core.List.{IsPrefix}
use Rattle.ilp_line_file.specs.Device.{Holds, Torn}
use Rattle.ilp_line_file.specs.Text.{recovered, text_of, IsBlank, IsBetween}
use Rattle.ilp_line_file.proofs.Whole.{recovered-text_of, are_lines, text_of-append, blank_nothing, blank_drop, torn_begins}

pub itself : (lines more : List (List ℕ)) (file : List ℕ) → recovered file ≡ lines → IsBetween lines (lines ++ more) file
itself lines more file is = record { has = ([], append-nil lines ∙ sym is); begins = (more, ap (λ (l : List (List ℕ)). l ++ more) is) }

-- what a settled file and a text are
pub record Ready (file : List ℕ) (end : ℕ) (text : List ℕ) : Type 0 where
  pub within : end ≤ length file
  pub begins : take end file ≡ text_of (recovered file)
  pub blank : IsBlank (drop end file)
  pub whole : text ≡ text_of (recovered text)

pub record Grown (file : List ℕ) (end : ℕ) (text new : List ℕ) : Type 0 where
  pub lines : recovered new ≡ recovered file ++ recovered text
  pub within : end + length text ≤ length new
  pub begins : take (end + length text) new ≡ text_of (recovered new)
  pub blank : IsBlank (drop (end + length text) new)

blank_later : (n m k : ℕ) (f : List ℕ) → k ≡ n + m → IsBlank (drop n f) → IsBlank (drop k f)
blank_later zero m k f is blank = let same : m ≡ k = omega arith in subst (λ (j : ℕ). IsBlank (drop j f)) same (blank_drop m f blank)
blank_later (suc n) m zero f is blank = absurd (omega arith)
blank_later (suc n) m (suc k) [] is blank = tt
blank_later (suc n) m (suc k) (b ∷ f) is blank = blank_later n m k f (omega arith) blank

size : (file : List ℕ) (end : ℕ) (text : List ℕ) → Ready file end text → length (text_of (recovered file) ++ text) ≡ end + length text
size file end text ready =
    omega (arith, length-append (text_of (recovered file)) text, ap length (sym ready.begins), ap length (take-append-drop end file), length-append (take end file) (drop end file), length-drop end file, ready.within)

pub grown : (file : List ℕ) (end : ℕ) (text new : List ℕ) → Ready file end text → Holds file end text new → Grown file end text new
grown file end text new ready holds =
    let rest = drop (end + length text) file in
    let blank : IsBlank rest = blank_later end (length text) (end + length text) file refl ready.blank in
    let all = recovered file ++ recovered text in
    let both : text_of (recovered file) ++ text ≡ text_of all = ap (λ (t : List ℕ). text_of (recovered file) ++ t) ready.whole ∙ sym (text_of-append (recovered file) (recovered text)) in
    let is : new ≡ (text_of (recovered file) ++ text) ++ rest = holds ∙ ap (λ (t : List ℕ). t ++ text ++ rest) ready.begins in
    let lines : recovered new ≡ all =
    ap recovered (is ∙ append_assoc (text_of (recovered file)) text rest)
    ∙ recovered-text_of (recovered file) (text ++ rest) (are_lines [] file tt)
    ∙ ap (λ (l : List (List ℕ)). recovered file ++ l) (ap (λ (t : List ℕ). recovered (t ++ rest)) ready.whole ∙ recovered-text_of (recovered text) rest (are_lines [] text tt) ∙ ap (λ (l : List (List ℕ)). recovered text ++ l) (blank_nothing [] rest blank) ∙ append-nil (recovered text)) in
    let n : length (text_of (recovered file) ++ text) ≡ end + length text = size file end text ready in
    record {
      lines = lines;
      within = omega (arith, ap length is, length-append (text_of (recovered file) ++ text) rest, n);
      begins = ap (λ (t : List ℕ). take (end + length text) t) is ∙ take_at (text_of (recovered file) ++ text) rest (end + length text) n ∙ both ∙ ap text_of (sym lines);
      blank = subst IsBlank (sym (ap (λ (t : List ℕ). drop (end + length text) t) is ∙ drop_at (text_of (recovered file) ++ text) rest (end + length text) n)) blank;
    }

pub torn : (file : List ℕ) (end : ℕ) (text c : List ℕ) → Ready file end text → Torn end text file c → IsBetween (recovered file) (recovered file ++ recovered text) c
torn file end text c ready is =
    let whole : c ≡ text_of (recovered file) ++ drop end c = sym (take-append-drop end c) ∙ ap (λ (t : List ℕ). t ++ drop end c) (is.before ∙ ready.begins) in
    let lines : recovered c ≡ recovered file ++ recovered (drop end c) = ap recovered whole ∙ recovered-text_of (recovered file) (drop end c) (are_lines [] file tt) in
    let more : IsPrefix (recovered (drop end c)) (recovered text) = torn_begins (drop end file) text (drop end c) [] ready.blank is.range in
    record {
      has = (recovered (drop end c), sym lines);
      begins = (more.0, ap (λ (l : List (List ℕ)). l ++ more.0) lines ∙ append_assoc (recovered file) (recovered (drop end c)) more.0 ∙ ap (λ (l : List (List ℕ)). recovered file ++ l) more.1);
    }

-- ---- zeros ahead

blank-append : (xs ys : List ℕ) → IsBlank xs → IsBlank ys → IsBlank (xs ++ ys)
blank-append [] ys x y = y
blank-append (b ∷ xs) ys x y = (x.0, blank-append xs ys x.1 y)

begins_nothing : (xs : List (List ℕ)) → IsPrefix xs [] → xs ≡ []
begins_nothing [] p = refl
begins_nothing (x ∷ xs) p = absurd (cc (p.1))

-- what a settled file is
pub record Settled (file : List ℕ) (end : ℕ) : Type 0 where
  pub within : end ≤ length file
  pub begins : take end file ≡ text_of (recovered file)
  pub blank : IsBlank (drop end file)

pub zeros_torn : (file : List ℕ) (end : ℕ) (zeros c : List ℕ) → Settled file end → IsBlank zeros → Torn end zeros file c → recovered c ≡ recovered file
zeros_torn file end zeros c settled blank is =
    let whole : c ≡ text_of (recovered file) ++ drop end c = sym (take-append-drop end c) ∙ ap (λ (t : List ℕ). t ++ drop end c) (is.before ∙ settled.begins) in
    let more : IsPrefix (recovered (drop end c)) (recovered zeros) = torn_begins (drop end file) zeros (drop end c) [] settled.blank is.range in
    let none : recovered (drop end c) ≡ [] = begins_nothing _ (subst (λ (l : List (List ℕ)). IsPrefix (recovered (drop end c)) l) (blank_nothing [] zeros blank) more) in
    ap recovered whole ∙ recovered-text_of (recovered file) (drop end c) (are_lines [] file tt) ∙ ap (λ (l : List (List ℕ)). recovered file ++ l) none ∙ append-nil (recovered file)

pub record Reserved (file : List ℕ) (end : ℕ) (new : List ℕ) : Type 0 where
  pub lines : recovered new ≡ recovered file
  pub settled : Settled new end

pub reserved : (file : List ℕ) (end : ℕ) (zeros new : List ℕ) → Settled file end → IsBlank zeros → Holds file end zeros new → Reserved file end new
reserved file end zeros new settled blank holds =
    let rest = zeros ++ drop (end + length zeros) file in
    let clear : IsBlank rest = blank-append zeros (drop (end + length zeros) file) blank (blank_later end (length zeros) (end + length zeros) file refl settled.blank) in
    let is : new ≡ text_of (recovered file) ++ rest = holds ∙ append_assoc (take end file) zeros (drop (end + length zeros) file) ∙ ap (λ (t : List ℕ). t ++ rest) settled.begins in
    let n : length (text_of (recovered file)) ≡ end = omega (arith, ap length (sym settled.begins), ap length (take-append-drop end file), length-append (take end file) (drop end file), length-drop end file, settled.within) in
    let lines : recovered new ≡ recovered file =
    ap recovered is ∙ recovered-text_of (recovered file) rest (are_lines [] file tt) ∙ ap (λ (l : List (List ℕ)). recovered file ++ l) (blank_nothing [] rest clear) ∙ append-nil (recovered file) in
    record {
      lines = lines;
      settled = record {
        within = omega (arith, ap length is, length-append (text_of (recovered file)) rest, n);
        begins = ap (λ (t : List ℕ). take end t) is ∙ take_at (text_of (recovered file)) rest end n ∙ ap text_of (sym lines);
        blank = subst IsBlank (sym (ap (λ (t : List ℕ). drop end t) is ∙ drop_at (text_of (recovered file)) rest end n)) clear;
      };
    }
