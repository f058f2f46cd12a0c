-- Lines as they are looked at.
use Rattle.std.proofs.Common.{arith, ◌≡◌, ◌∙◌, ℕ, List, [], ◌∷◌, map, take, length, Bool, true, false, refl, sym, ap}
use Rattle.std.specs.Prelude.{min}
use Rattle.std.specs.List.{list_any}
use Rattle.std.proofs.lemmas.List.{take_min, take-map}

-- the first of what stands for them
pub first_few : {X Y : Type 0} (f : X → Y) (n : ℕ) (xs : List X) → map f (take (min n (length xs)) xs) ≡ take n (map f xs)
first_few f n xs = ap (map f) (take_min n xs) ∙ sym (take-map f n xs)

-- what is found by what stands for them
pub any_mapped : {X Y : Type 0} (p : Y → Bool) (f : X → Y) (xs : List X) → list_any (λ x. p (f x)) xs ≡ list_any p (map f xs)
any_mapped p f [] = refl
any_mapped p f (x ∷ xs) = grind (arith, any_mapped p f xs)
