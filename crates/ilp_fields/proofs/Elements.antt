-- The elements of an array, as the code holds them.
use Rattle.std.proofs.Common.{◌≡◌, List, [], ◌∷◌, map, length, refl, ap}
use Rattle.std.proofs.lemmas.List.{length-map}
use Rattle.toml.specs.Data.{Data}
use Rattle.toml.specs.View.{view, items_of}
use Rattle.toml.specs.declared.value.Value.{Value}
use Rattle.ilp_fields.specs.Fields.{list_of}

pub list_of-items_of : (ds : List Data) → list_of (items_of ds) ≡ ds
list_of-items_of [] = refl
list_of-items_of (d ∷ ds) = ap (λ rest. d ∷ rest) (list_of-items_of ds)

pub elements_seen : (vs : List Value) → list_of (items_of (map view vs)) ≡ map view vs
elements_seen vs = list_of-items_of (map view vs)

pub length_seen : (vs : List Value) → length (map view vs) ≡ length vs
length_seen vs = length-map vs view
