-- The checks of fields, and what a reader answers.
use Rattle.std.specs.Prelude.{◌≡◌, ◌≢◌, Bool, if◌then◌else◌, Option, Some, None, Result, Ok, Err}
use Rattle.toml.specs.Data.{Data, Members}
pub use Rattle.ilp_order.specs.Checks.{first_beside}
use Rattle.ilp_fields.specs.declared.fault.Field.{Field}
use Rattle.ilp_fields.specs.declared.fault.ConfigFault.{ConfigFault}
use Rattle.ilp_fields.specs.declared.fault.ConfigFault.TheVariants.{Memory, Missing, BadValue}
use Rattle.ilp_fields.specs.Fields.{at}

abbrev pub fault_unless : Bool → ConfigFault → Option ConfigFault
fault_unless fits fault = if fits then None else Some fault

-- a field that has to be there, and one that needn't
abbrev pub required_in : (Data → Bool) → Field → Option Data → Option ConfigFault
required_in fits field None = Some (Missing field)
required_in fits field (Some value) = fault_unless (fits value) (BadValue field)

abbrev pub optional_in : (Data → Bool) → Field → Option Data → Option ConfigFault
optional_in fits field None = None
optional_in fits field (Some value) = fault_unless (fits value) (BadValue field)

abbrev pub required : (Data → Bool) → Field → Members → Option ConfigFault
required fits field t = required_in fits field (at field t)

abbrev pub optional : (Data → Bool) → Field → Members → Option ConfigFault
optional fits field t = optional_in fits field (at field t)

-- What the reader of a field answers: the value where there is no fault, else the fault.
abbrev pub Gives : {X V : Type 0} → (X → V) → Result X ConfigFault → Option ConfigFault → V → Type 0
Gives view (Ok x) fault value = (fault ≡ None) × (view x ≡ value)
Gives view (Err e) fault value = fault ≡ Some e

-- What a reader answers that takes memory: the same, or want of memory.
abbrev pub Reads : {X V : Type 0} → (X → V) → Result X ConfigFault → Option ConfigFault → V → Type 0
Reads view (Ok x) fault value = (fault ≡ None) × (view x ≡ value)
Reads view (Err e) fault value = e ≢ Memory → fault ≡ Some e
