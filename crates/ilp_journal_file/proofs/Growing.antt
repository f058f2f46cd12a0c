-- Lists that grow by a piece.
use Rattle.std.proofs.Common.{◌≡◌, ◌∙◌, ◌≤◌, ℕ, ◌+◌, ap, List, [], ◌++◌, length, take, drop, max, arith, subst, length-append}
use Rattle.std.proofs.Math.Seq.{take-length, take-append-add}
use Rattle.std.proofs.Math.ListN.{drop_of_length-le}
use Rattle.std.proofs.lemmas.List.{length-take-le, take-append-drop}
use Rattle.ilp_line_file.specs.Device.{Holds}

-- how long a file is behind a write at its end
pub length_behind : (at : ℕ) (octets old new : List ℕ) → length old ≡ at → Holds old at octets new → length new ≡ max at (at + length octets)
length_behind at octets old new same holds =
    let none : drop (at + length octets) old ≡ [] = drop_of_length-le old (omega (arith, same)) in
    let all : take at old ≡ old = ap (λ (n : ℕ). take n old) (omega (arith, same)) ∙ take-length old in
    let new_is : new ≡ (old ++ octets) ++ [] =
    holds ∙ ap (λ (l : List ℕ). (l ++ octets) ++ drop (at + length octets) old) all ∙ ap (λ (l : List ℕ). (old ++ octets) ++ l) none in
    omega (arith, ap (λ (l : List ℕ). length l) new_is, length-append (old ++ octets) [], length-append old octets, same)

-- so many more are those behind the first
pub take_more : (n m : ℕ) (xs : List ℕ) → n ≤ length xs → take (n + m) xs ≡ take n xs ++ take m (drop n xs)
take_more n m xs le =
    let front : List ℕ = take n xs in
    let back : List ℕ = drop n xs in
    subst (λ (k : ℕ). take (k + m) xs ≡ front ++ take m back) (length-take-le n xs le)
    (subst (λ (l : List ℕ). take (length front + m) l ≡ front ++ take m back) (take-append-drop n xs) (take-append-add front back m))
