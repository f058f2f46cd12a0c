-- An entry among those before it and those behind it.
use Rattle.std.proofs.Common.{◌≡◌, ℕ, zero, suc, ◌<◌, List, [], ◌∷◌, ◌++◌, length, Option, Some, refl, ap, subst, sym, ◌∙◌, arith}
use Rattle.std.specs.Prelude.{take, drop, slice_get}
use Rattle.ilp_order.specs.Places.{EachAfter, Each}

-- the element at a place, between those before it and those behind it
pub record StandsAt {X : Type 0} (xs : List X) (n : ℕ) : Type 0 where
  pub here : X
  pub got : slice_get xs n ≡ Some here
  pub before : take (suc n) xs ≡ take n xs ++ here ∷ []
  pub whole : xs ≡ take n xs ++ here ∷ drop (suc n) xs

pub stands_at : {X : Type 0} (xs : List X) (n : ℕ) → n < length xs → StandsAt xs n
stands_at [] n within = absurd (omega (arith, within))
stands_at (x ∷ xs) zero within = record { here = x; got = refl; before = refl; whole = refl }
stands_at (x ∷ xs) (suc n) within =
    let at = stands_at xs n (omega (arith, within)) in
    record { here = at.here; got = at.got; before = ap (λ l. x ∷ l) at.before; whole = ap (λ l. x ∷ l) at.whole }

-- what holds of each element holds of each of the first ones
pub Each-first : {X : Type 0} (P : List X → X → Type 0) (before xs ys : List X) → EachAfter P before (xs ++ ys) → EachAfter P before xs
Each-first P before [] ys each = tt
Each-first P before (x ∷ xs) ys each = (each.0, Each-first P (before ++ x ∷ []) xs ys each.1)
