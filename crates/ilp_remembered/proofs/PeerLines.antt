-- Lines, one behind the other.
use Rattle.std.proofs.Common.{◌≡◌, ℕ, ◌+◌, ◌<◌, List, [], ◌∷◌, ◌++◌, length, take, get_or, ap, ◌∙◌}
use Rattle.std.specs.List.{flat_map}
use Rattle.std.proofs.lemmas.Grind.{flat_map-append}
use Rattle.std.proofs.lemmas.List.{append-nil, take_more}

-- the lines as far as an element, and that of the element
pub lines_next : {X : Type 0} (f : X → List ℕ) (xs : List X) (n : ℕ) (d : X) → n < length xs → flat_map f (take (n + 1) xs) ≡ flat_map f (take n xs) ++ f (get_or xs n d)
lines_next f xs n d within =
    ap (flat_map f) (take_more xs n d within) ∙ flat_map-append f (take n xs) (get_or xs n d ∷ [])
    ∙ ap (λ (line : List ℕ). flat_map f (take n xs) ++ line) (append-nil (f (get_or xs n d)))
