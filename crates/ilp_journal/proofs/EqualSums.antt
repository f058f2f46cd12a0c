-- Sums over a list whose terms are equal, and sums of sums.
use Rattle.std.proofs.Common.{◌≡◌, ℕ, suc, ◌+◌, ℤ, ◌+ℤ◌, List, [], ◌∷◌, Some, refl, sym, ap, ap₂, ◌∙◌, subst, arith, add-zero}
use Rattle.std.specs.Prelude.{slice_get}
use Rattle.ilp_order.specs.Places.{sum_from, int_sum_from}
use Rattle.ilp_order.proofs.Sums.{sum_from-add, sum_from-zero}

-- terms that are equal at each place have equal sums
pub sum_from-same_at : {X : Type 0} (f g : ℕ → X → ℕ) (n : ℕ) (xs : List X) → ((k : ℕ) (x : X) → slice_get xs k ≡ Some x → f (n + k) x ≡ g (n + k) x)
    → sum_from f n xs ≡ sum_from g n xs
sum_from-same_at f g n [] same = refl
sum_from-same_at f g n (x ∷ xs) same =
    let P : ℕ → Type 0 = λ k. f k x ≡ g k x in
    let here : f n x ≡ g n x = subst P (add-zero n) (same 0 x refl) in
    omega (arith, here, sum_from-same_at f g (n + 1) xs (λ k y at. let Q : ℕ → Type 0 = λ m. f m y ≡ g m y in subst Q (omega arith) (same (suc k) y at)))

-- equal terms have equal sums of whole numbers
pub int_sum_from-same : {X : Type 0} (f g : ℕ → X → ℤ) (n : ℕ) (xs : List X) → ((k : ℕ) (x : X) → f k x ≡ g k x) → int_sum_from f n xs ≡ int_sum_from g n xs
int_sum_from-same f g n [] same = refl
int_sum_from-same f g n (x ∷ xs) same = ap₂ (λ a b. a +ℤ b) (same n x) (int_sum_from-same f g (n + 1) xs same)

-- a sum of sums, in either order
pub sum_from-exchange : {X Y : Type 0} (h : ℕ → X → ℕ → Y → ℕ) (n m : ℕ) (xs : List X) (ys : List Y)
    → sum_from (λ k x. sum_from (λ l y. h k x l y) m ys) n xs ≡ sum_from (λ l y. sum_from (λ k x. h k x l y) n xs) m ys
sum_from-exchange h n m [] ys = sym (sum_from-zero (λ l y. 0) m ys (λ l y low. refl))
sum_from-exchange h n m (x ∷ xs) ys =
    ap (λ s. sum_from (λ l y. h n x l y) m ys + s) (sum_from-exchange h (n + 1) m xs ys)
    ∙ sym (sum_from-add _ (λ l y. h n x l y) (λ l y. sum_from (λ k z. h k z l y) (n + 1) xs) m ys (λ l y. refl))
