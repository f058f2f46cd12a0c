-- Lists that a function makes of the places and elements of another list.
use Rattle.std.specs.Prelude.{ℕ, ◌+◌, List, [], ◌∷◌, Option}
use Rattle.std.specs.List.{cons_option}

-- what f makes of each place and element, the first place being n, without those where it makes nothing
abbrev pub filter_map_from : {X Y : Type 0} → (ℕ → X → Option Y) → ℕ → List X → List Y
filter_map_from f n [] = []
filter_map_from f n (x ∷ xs) = cons_option (f n x) (filter_map_from f (n + 1) xs)
