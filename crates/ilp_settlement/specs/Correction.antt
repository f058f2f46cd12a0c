-- A correction of a balance: a quantity by which it rises or falls, and why.
use Rattle.std.specs.Prelude.{ℕ, ◌&&◌, not, ◌==◌, List, [], ◌∷◌, length, Bool, true, false, nat_le, if◌then◌else◌, Option, Some, None, option_and_then, option_map, codes, is_some, Result, Ok, Err}
use Rattle.std.specs.List.{list_all}
use Rattle.std.specs.Str.Parse.{digits_value}
use Rattle.serde_json.specs.Data.{Data}
use Rattle.serde_json.specs.Find.{as_object, as_str, get}
use Rattle.ilp_settlement.specs.declared.quantity.Quantity.{Quantity}
use Rattle.ilp_settlement.specs.declared.correction.CorrectionFault.{CorrectionFault}
use Rattle.ilp_settlement.specs.declared.correction.CorrectionFault.TheVariants.{NotJson, BadAmount, BadScale, BadReason}
use Rattle.ilp_settlement.specs.Quantity.{value_in, is_amount_text, scale_in}

-- what is to be corrected: by how much, whether it falls, and the octets of the reason
pub record PlainCorrection : Type 0 where
  pub quantity : Quantity
  pub lowers : Bool
  pub reason : List ℕ

-- ---- amounts

-- the number of a text of decimal digits
abbrev pub amount_of_text : List ℕ → Option ℕ
amount_of_text text = if is_amount_text text then Some (digits_value 10 text) else None

-- what stands behind the minus that a text begins with, if it does
abbrev pub behind_minus : List ℕ → Option (List ℕ)
behind_minus [] = None
behind_minus (octet ∷ rest) = if octet == 45 then Some rest else None

-- a balance falls by an amount behind a minus, and rises by another one
abbrev change_by : List ℕ → Option (List ℕ) → Option (Bool × ℕ)
change_by text None = option_map (λ amount. (false, amount)) (amount_of_text text)
change_by text (Some digits) = option_map (λ amount. (true, amount)) (amount_of_text digits)

abbrev pub change_in_text : List ℕ → Option (Bool × ℕ)
change_in_text text = change_by text (behind_minus text)

-- ---- reasons

-- an octet that is no control character
abbrev pub is_printed : ℕ → Bool
is_printed octet = nat_le 32 octet && not (octet == 127)

abbrev pub is_reason : List ℕ → Bool
is_reason text = nat_le 1 (length text) && nat_le (length text) 128 && list_all is_printed text

abbrev pub reason_of_text : List ℕ → Option (List ℕ)
reason_of_text text = if is_reason text then Some text else None

-- ---- the whole

abbrev with_reason : Bool → ℕ → ℕ → Option (List ℕ) → Result PlainCorrection CorrectionFault
with_reason lowers amount scale None = Err BadReason
with_reason lowers amount scale (Some reason) = Ok (record { quantity = record { amount = amount; scale = scale }; lowers = lowers; reason = reason })

abbrev with_scale : Bool → ℕ → Option ℕ → Option (List ℕ) → Result PlainCorrection CorrectionFault
with_scale lowers amount None reason = Err BadScale
with_scale lowers amount (Some scale) reason = with_reason lowers amount scale reason

abbrev with_change : Option (Bool × ℕ) → Option ℕ → Option (List ℕ) → Result PlainCorrection CorrectionFault
with_change None scale reason = Err BadAmount
with_change (Some (lowers, amount)) scale reason = with_scale lowers amount scale reason

-- the correction that a JSON value is, or the first fault
abbrev pub correction_of : Data → Result PlainCorrection CorrectionFault
correction_of value = if is_some (as_object value)
    then with_change (option_and_then change_in_text (option_and_then as_str (get (codes "amount") value)))
    (option_and_then scale_in (get (codes "scale") value))
    (option_and_then reason_of_text (option_and_then as_str (get (codes "reason") value)))
    else Err NotJson

abbrev of_value : Option Data → Result PlainCorrection CorrectionFault
of_value None = Err NotJson
of_value (Some value) = correction_of value

-- the correction that octets are, or the first fault
abbrev pub correction_in : List ℕ → Result PlainCorrection CorrectionFault
correction_in octets = of_value (value_in octets)
