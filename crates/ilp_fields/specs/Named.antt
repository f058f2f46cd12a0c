-- The asset that a text CODE/SCALE names.
use Rattle.std.specs.Prelude.{ℕ, Bool, not, ◌&&◌, ◌||◌, ◌==◌, nat_le, nat_lt, List, length, slice_index, Option, Some, None, if◌then◌else◌, option_map}
use Rattle.std.specs.List.{list_all, before_first, after_first}
use Rattle.std.specs.Str.Parse.{digits_value}
use Rattle.ilp_assets.specs.Assets.{PlainAsset}
use Rattle.ilp_fields.specs.declared.form.Form.TheVariants as form
use Rattle.ilp_fields.specs.Forms.{admits, is_digit}

abbrev pub is_slash : ℕ → Bool
is_slash octet = octet == 47

-- one or more digits, of which the first of several is not 0
abbrev pub is_plain_number : List ℕ → Bool
is_plain_number digits = nat_lt 0 (length digits) && (list_all is_digit digits && (length digits == 1 || not (slice_index digits 0 == 48)))

-- the scale that digits tell, at most 255
abbrev pub scale_named : List ℕ → Option ℕ
scale_named digits =
    if is_plain_number digits && nat_le (digits_value 10 digits) 255 then Some (digits_value 10 digits) else None

abbrev pub asset_with : List ℕ → ℕ → PlainAsset
asset_with code scale = record { code = code; scale = scale }

-- the asset of this code and these digits
abbrev pub asset_from : List ℕ → List ℕ → Option PlainAsset
asset_from code digits = if admits form.Code code then option_map (asset_with code) (scale_named digits) else None

-- a code before the first slash, and the digits of a scale after it
abbrev pub asset_named : List ℕ → Option PlainAsset
asset_named text = asset_from (before_first is_slash text) (after_first is_slash text)
