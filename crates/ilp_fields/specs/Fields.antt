-- What the fields of a table hold.
use Rattle.std.specs.Prelude.{ℕ, ℤ, pos, Bool, false, ◌&&◌, nat_le, List, [], ◌∷◌, length, Option, Some, None, is_some, unwrap_or, option_and_then}
use Rattle.std.specs.List.{list_all, filter_map}
use Rattle.toml.specs.Data.{Data, string, integer, Items, no_items, item, Members, get_member, as_str, as_integer, as_array, as_table}
use Rattle.ilp_fields.specs.declared.fault.Field.{Field}
use Rattle.ilp_fields.specs.declared.form.Form.{Form}
use Rattle.ilp_fields.specs.Keys.{key}
use Rattle.ilp_assets.specs.Assets.{PlainAsset, no_asset}
use Rattle.ilp_fields.specs.Forms.{admits, is_within}
use Rattle.ilp_fields.specs.Named.{asset_named}

-- what stands under the field's key
abbrev pub at : Field → Members → Option Data
at field t = get_member (key field) t

-- the values of each type
abbrev pub is_text : Form → Data → Bool
is_text form (string text) = admits form text
is_text form _ = false

-- the asset that a text names
abbrev pub asset : Data → Option PlainAsset
asset (string text) = asset_named text
asset _ = None

abbrev pub is_asset : Data → Bool
is_asset value = is_some (asset value)

abbrev pub is_integer : Data → Bool
is_integer value = is_some (as_integer value)

abbrev pub natural : Data → Option ℕ
natural (integer (pos n)) = Some n
natural _ = None

abbrev pub is_natural_within : ℕ → ℕ → Option ℕ → Bool
is_natural_within least most None = false
is_natural_within least most (Some n) = is_within least most n

abbrev pub is_natural : ℕ → ℕ → Data → Bool
is_natural least most value = is_natural_within least most (natural value)

abbrev pub list_of : Items → List Data
list_of no_items = []
list_of (item value values) = value ∷ list_of values

-- the elements of an array; what is no array has none
abbrev pub elements_in : Option Items → List Data
elements_in None = []
elements_in (Some values) = list_of values

abbrev pub elements : Data → List Data
elements value = elements_in (as_array value)

abbrev pub is_table : Data → Bool
is_table value = is_some (as_table value)

-- an array of at most so many tables
abbrev pub are_tables_in : ℕ → Option Items → Bool
are_tables_in most None = false
are_tables_in most (Some values) = nat_le (length (list_of values)) most && list_all is_table (list_of values)

abbrev pub are_tables : ℕ → Data → Bool
are_tables most value = are_tables_in most (as_array value)

-- what a field holds, where it is of the type
abbrev pub text_in : Field → Members → Option (List ℕ)
text_in field t = option_and_then as_str (at field t)

abbrev pub integer_in : Field → Members → Option ℤ
integer_in field t = option_and_then as_integer (at field t)

abbrev pub natural_in : Field → Members → Option ℕ
natural_in field t = option_and_then natural (at field t)

abbrev pub asset_in : Field → Members → Option PlainAsset
asset_in field t = option_and_then asset (at field t)

-- what a field holds that is there, and is of the type
abbrev pub text_of : Field → Members → List ℕ
text_of field t = unwrap_or (text_in field t) []

abbrev pub integer_of : Field → Members → ℤ
integer_of field t = unwrap_or (integer_in field t) (pos 0)

abbrev pub natural_of : Field → Members → ℕ
natural_of field t = unwrap_or (natural_in field t) 0

abbrev pub asset_of : Field → Members → PlainAsset
asset_of field t = unwrap_or (asset_in field t) no_asset

-- the elements of the array that a field holds
abbrev pub elements_of : Field → Members → List Data
elements_of field t = elements_in (option_and_then as_array (at field t))

-- those of some values that are tables
abbrev pub tables : List Data → List Members
tables values = filter_map as_table values
