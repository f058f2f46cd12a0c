-- The values of fields by the map that a request has, and by its head.
use Rattle.std.proofs.Common.{◌≡◌, ℕ, List, [], ◌∷◌, map, refl, ap, ◌∙◌}
use Rattle.http_header.specs.FieldValue.{FieldValue, plain_value}
use Rattle.http_header.specs.HeaderMap.{Entries}
use Rattle.ilp_http.specs.Fields.{MapsFields}
use Rattle.ilp_http.specs.Framing.{NamedValue, values_named}
use Rattle.ilp_server.specs.Fields.{values_in}

-- plain values have the octets that they were made of
plain_octets : (values : List (List ℕ)) → map (λ value. value.bytes) (map plain_value values) ≡ values
plain_octets [] = refl
plain_octets (value ∷ values) = ap (λ rest. value ∷ rest) (plain_octets values)

-- a map of fields has their values
pub values_mapped : (headers : Entries FieldValue) (fields : List NamedValue) (name : List ℕ) → MapsFields headers fields
    → values_in headers name ≡ values_named name fields
values_mapped headers fields name maps = ap (map (λ value. value.bytes)) (maps name) ∙ plain_octets (values_named name fields)
