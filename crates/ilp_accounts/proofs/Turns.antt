-- What a loop that reads tables keeps, and one turn of a loop that reads each beside those before it.
use Rattle.std.proofs.Common.{◌≡◌, ℕ, ◌+◌, ◌<◌, List, [], ◌∷◌, ◌++◌, map, length, drop, get_or, Option, Some, None, ap, sym, ◌∙◌, append_assoc}
use Rattle.std.proofs.lemmas.List.{at_drop_more}
use Rattle.std.specs.List.{cons_option}
use Rattle.toml.specs.Data.{Members, as_table}
use Rattle.toml.specs.View.{view}
use Rattle.toml.specs.declared.value.Value.{Value}
use Rattle.ilp_order.specs.Checks.{first_of}
use Rattle.ilp_order.proofs.CheckLemmas.{first_of-lone}
use Rattle.ilp_fields.specs.declared.fault.ConfigFault.{ConfigFault}
use Rattle.ilp_fields.specs.Checks.{first_beside}
use Rattle.ilp_fields.specs.Fields.{tables}

-- What was read before a place, and the tables that are left there: these have the first fault of all, and complete what was read.
pub record IsRead {R : Type 0} (first_fault : List R → List Members → Option ConfigFault) (give : Members → R) (values : List Value) (place : ℕ) (before : List R) : Type 0 where
  pub first : first_fault before (tables (map view (drop place values))) ≡ first_fault [] (tables (map view values))
  pub whole : before ++ map give (tables (map view (drop place values))) ≡ map give (tables (map view values))

-- what the value at a place adds to the tables from there
step : (values : List Value) (place : ℕ) (value : Value) → place < length values → value ≡ get_or values place value
    → tables (map view (drop place values)) ≡ cons_option (as_table (view value)) (tables (map view (drop (place + 1) values)))
step values place value inside is =
    at_drop_more (λ vs. tables (map view vs)) values place value inside
    ∙ ap (λ (v : Value). cons_option (as_table (view v)) (tables (map view (drop (place + 1) values)))) (sym is)

module _ {R : Type 0} (fault : List R → Members → Option ConfigFault) (give : Members → R) where
  -- a value that is no table adds nothing
  pub skipped : (values : List Value) (place : ℕ) (value : Value) (before : List R) → place < length values → value ≡ get_or values place value → as_table (view value) ≡ None
      → IsRead (first_beside fault give) give values place before → IsRead (first_beside fault give) give values (place + 1) before
  skipped values place value before inside is none read =
      let same = step values place value inside is ∙ ap (λ t. cons_option t (tables (map view (drop (place + 1) values)))) none in
      record {
        first = ap (first_beside fault give before) (sym same) ∙ read.first;
        whole = ap (λ ts. before ++ map give ts) (sym same) ∙ read.whole;
      }

  -- a table without a fault adds what it gives
  pub taken : (values : List Value) (place : ℕ) (value : Value) (t : Members) (before : List R) → place < length values → value ≡ get_or values place value → as_table (view value) ≡ Some t
      → fault before t ≡ None → IsRead (first_beside fault give) give values place before → IsRead (first_beside fault give) give values (place + 1) (before ++ give t ∷ [])
  taken values place value t before inside is some none read =
      let rest = tables (map view (drop (place + 1) values)) in
      let same : tables (map view (drop place values)) ≡ t ∷ rest = step values place value inside is ∙ ap (λ o. cons_option o rest) some in
      let next = first_beside fault give (before ++ give t ∷ []) rest in
      let turned : first_beside fault give before (t ∷ rest) ≡ next = ap (λ f. first_of (f ∷ next ∷ [])) none ∙ first_of-lone next in
      record {
        first = sym turned ∙ ap (first_beside fault give before) (sym same) ∙ read.first;
        whole = append_assoc before (give t ∷ []) (map give rest) ∙ ap (λ ts. before ++ map give ts) (sym same) ∙ read.whole;
      }
