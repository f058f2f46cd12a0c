-- One line more.
use Rattle.std.proofs.Common.{◌≡◌, ℕ, suc, ◌+◌, ◌<◌, ◌≤◌, Bool, true, false, cond, List, [], ◌∷◌, ◌++◌, length, Option, Some, refl, sym, ap, subst, ◌∙◌, arith, append-nil}
use Rattle.std.specs.Prelude.{take, drop, map, unwrap_or, option_map, is_some}
use Rattle.std.proofs.lemmas.List.{map-append, drop-append-le, length-take-le, length-drop}
use Rattle.ilp_order.specs.Places.{places_from, passes_at}
use Rattle.ilp_journal.specs.declared.entry.Entry.{Entry}
use Rattle.ilp_journal.specs.Journal.{Entries}
use Rattle.ilp_statement.specs.declared.line.Line.{Line}
use Rattle.ilp_statement.specs.Statement.{kind_of, line_at, lines_of, between}
use Rattle.ilp_statement.proofs.Entries.{StandsAt, stands_at}

-- n alone, where it passes
abbrev one_if : Bool → ℕ → List ℕ
one_if passes n = cond passes (n ∷ []) []

-- an element more at the end is the last that passes, if it does
places_from-push : {X : Type 0} (test : X → Bool) (n : ℕ) (xs : List X) (x : X)
    → places_from (λ _. test) n (xs ++ x ∷ []) ≡ places_from (λ _. test) n xs ++ one_if (test x) (n + length xs)
places_from-push test n [] x = by_test (test x) refl
  where
    by_test : (b : Bool) → test x ≡ b → places_from (λ _. test) n (x ∷ []) ≡ one_if (test x) (n + 0)
    by_test true is = rw is (ap (λ k. k ∷ []) (omega arith))
    by_test false is = rw is refl
places_from-push {X} test n (y ∷ ys) x = by_test (test y) refl
    (places_from-push test (n + 1) ys x ∙ ap (λ k. places_from (λ _. test) (n + 1) ys ++ one_if (test x) k) (omega arith))
  where
    by_test : (b : Bool) → test y ≡ b
        → places_from (λ _. test) (n + 1) (ys ++ x ∷ []) ≡ places_from (λ _. test) (n + 1) ys ++ one_if (test x) (n + suc (length ys))
        → places_from (λ _. test) n (y ∷ ys ++ x ∷ []) ≡ places_from (λ _. test) n (y ∷ ys) ++ one_if (test x) (n + suc (length ys))
    by_test true is later = rw is (ap (λ l. n ∷ l) later)
    by_test false is later = rw is later

-- the line of n alone, where the entry is the peer's
abbrev line_if : Bool → Line → List Line
line_if is line = cond is (line ∷ []) []

-- the entry n adds its line, where it is the peer's
pub lines_more : (j : Entries) (p first n : ℕ) → first ≤ n → n < length j
    → lines_of j p first (n + 1) ≡ lines_of j p first n ++ line_if (passes_at (λ (e : Entry). is_some (kind_of j p e.what)) j n) (line_at j p n)
lines_more j p first n order within =
    let at = stands_at j n within in
    let whole : length (take n j) ≡ n = length-take-le n j (omega (arith, within)) in
    let more : n + 1 ≡ suc n = omega arith in
    let listed : between j first (n + 1) ≡ between j first n ++ at.here ∷ [] =
    ap (λ k. drop first (take k j)) more ∙ ap (drop first) at.before ∙ drop-append-le first (take n j) (at.here ∷ []) (omega (arith, order, whole)) in
    let behind : first + length (between j first n) ≡ n = omega (arith, order, whole, length-drop first (take n j)) in
    let is : is_some (kind_of j p at.here.what) ≡ passes_at (λ (e : Entry). is_some (kind_of j p e.what)) j n = sym (ap (λ o. unwrap_or (option_map (λ (e : Entry). is_some (kind_of j p e.what)) o) false) at.got) in
    let places : places_from (λ _ (e : Entry). is_some (kind_of j p e.what)) first (between j first (n + 1)) ≡ places_from (λ _ (e : Entry). is_some (kind_of j p e.what)) first (between j first n) ++ one_if (passes_at (λ (e : Entry). is_some (kind_of j p e.what)) j n) n =
    ap (places_from (λ _ (e : Entry). is_some (kind_of j p e.what)) first) listed ∙ places_from-push (λ (e : Entry). is_some (kind_of j p e.what)) first (between j first n) at.here
    ∙ ap (λ b. places_from (λ _ (e : Entry). is_some (kind_of j p e.what)) first (between j first n) ++ one_if b (first + length (between j first n))) is
    ∙ ap (λ k. places_from (λ _ (e : Entry). is_some (kind_of j p e.what)) first (between j first n) ++ one_if (passes_at (λ (e : Entry). is_some (kind_of j p e.what)) j n) k) behind in
    ap (map (line_at j p)) places ∙ map-append (line_at j p) (places_from (λ _ (e : Entry). is_some (kind_of j p e.what)) first (between j first n)) (one_if (passes_at (λ (e : Entry). is_some (kind_of j p e.what)) j n) n)
    ∙ ap (λ l. lines_of j p first n ++ l) (mapped (passes_at (λ (e : Entry). is_some (kind_of j p e.what)) j n))
  where
    mapped : (b : Bool) → map (line_at j p) (one_if b n) ≡ line_if b (line_at j p n)
    mapped true = refl
    mapped false = refl

-- so the lines that are listed stay those of the peer's, with one more and without
pub listed_on : (j : Entries) (p first n : ℕ) (lines : List Line) → first ≤ n → n < length j → lines ≡ lines_of j p first n
    → passes_at (λ (e : Entry). is_some (kind_of j p e.what)) j n ≡ true → lines ++ line_at j p n ∷ [] ≡ lines_of j p first (n + 1)
listed_on j p first n lines order within listed is =
    ap (λ l. l ++ line_at j p n ∷ []) listed ∙ sym (lines_more j p first n order within ∙ ap (λ b. lines_of j p first n ++ line_if b (line_at j p n)) is)

pub listed_past : (j : Entries) (p first n : ℕ) (lines : List Line) → first ≤ n → n < length j → lines ≡ lines_of j p first n
    → passes_at (λ (e : Entry). is_some (kind_of j p e.what)) j n ≡ false → lines ≡ lines_of j p first (n + 1)
listed_past j p first n lines order within listed is =
    listed ∙ sym (lines_more j p first n order within ∙ ap (λ b. lines_of j p first n ++ line_if b (line_at j p n)) is ∙ append-nil (lines_of j p first n))
