-- A quantity: a number of units, at a scale. It means the amount times 10 to the power of minus scale.
use Rattle.std.specs.Prelude.{ℕ, ◌*◌, ◌/◌, ◌^◌, ◌&&◌, List, ◌++◌, length, Bool, nat_le, if◌then◌else◌, Option, Some, None, option_and_then, codes, is_some, Result, Ok, Err}
use Rattle.std.specs.Str.{is_utf8}
use Rattle.std.specs.Char.{is_ascii_digit}
use Rattle.std.specs.List.{list_all}
use Rattle.std.specs.Str.Parse.{digits_value}
use Rattle.std.specs.Fmt.{decimal}
use Rattle.serde_json.specs.Data.{Data, null, boolean, number, string, array, object}
use Rattle.serde_json.specs.Read.{read}
use Rattle.serde_json.specs.Find.{as_object, as_number, as_u64, get}
use Rattle.ilp_settlement.specs.declared.quantity.Quantity.{Quantity}
use Rattle.ilp_settlement.specs.declared.quantity.QuantityFault.{QuantityFault}
use Rattle.ilp_settlement.specs.declared.quantity.QuantityFault.TheVariants.{NotJson, BadAmount, BadScale}

-- the JSON value that octets are, if they are one
abbrev pub value_in : List ℕ → Option Data
value_in octets = if is_utf8 octets then read octets else None

-- the most digits of an amount
abbrev pub most_digits : ℕ
most_digits = 38

-- a text of decimal digits, as many as an amount may have
abbrev pub is_amount_text : List ℕ → Bool
is_amount_text text = nat_le 1 (length text) && nat_le (length text) most_digits && list_all is_ascii_digit text

-- the amount that a member has
abbrev pub amount_in : Data → Option ℕ
amount_in null = None
amount_in (boolean b) = None
amount_in (number n) = as_u64 n
amount_in (string text) = if is_amount_text text then Some (digits_value 10 text) else None
amount_in (array items) = None
amount_in (object m) = None

-- the greatest scale
abbrev pub most_scale : ℕ
most_scale = 255

-- a number that a scale may be
abbrev pub as_scale : ℕ → Option ℕ
as_scale n = if nat_le n most_scale then Some n else None

-- the scale that a member has
abbrev pub scale_in : Data → Option ℕ
scale_in value = option_and_then as_scale (option_and_then as_u64 (as_number value))

abbrev with_scale : ℕ → Option ℕ → Result Quantity QuantityFault
with_scale amount None = Err BadScale
with_scale amount (Some scale) = Ok (record { amount = amount; scale = scale })

abbrev with_amount : Option ℕ → Option ℕ → Result Quantity QuantityFault
with_amount None scale = Err BadAmount
with_amount (Some amount) scale = with_scale amount scale

-- the quantity that a JSON value is, or the first fault
abbrev pub quantity_of : Data → Result Quantity QuantityFault
quantity_of value = if is_some (as_object value)
    then with_amount (option_and_then amount_in (get (codes "amount") value))
    (option_and_then scale_in (get (codes "scale") value))
    else Err NotJson

abbrev of_value : Option Data → Result Quantity QuantityFault
of_value None = Err NotJson
of_value (Some value) = quantity_of value

-- the quantity that octets are, or the first fault
abbrev pub quantity_in : List ℕ → Result Quantity QuantityFault
quantity_in octets = of_value (value_in octets)

-- a quantity in units of another scale, rounded down
abbrev pub credited_at : Quantity → ℕ → ℕ
credited_at quantity scale = quantity.amount * 10 ^ scale / 10 ^ quantity.scale

-- the JSON of an amount at a scale, as it is printed
abbrev pub quantity_text : ℕ → ℕ → List ℕ
quantity_text amount scale =
    codes "{\"amount\":\"" ++ decimal amount ++ codes "\",\"scale\":" ++ decimal scale ++ codes "}"
