-- What the octets of a configuration give.
use Rattle.std.specs.Prelude.{◌≡◌, ◌≢◌, ◌⊎◌, Option, Some, None, Result, Ok, Err}
use Rattle.toml.specs.Data.{Members}
use Rattle.ilp_accounts.specs.Configuration.{Configuration, configuration}
use Rattle.ilp_accounts.specs.Faults.{first_fault}
use Rattle.ilp_fields.specs.declared.fault.ConfigFault.{ConfigFault}
use Rattle.ilp_fields.specs.declared.fault.ConfigFault.TheVariants.{Memory}
use Rattle.ilp_refusals.specs.Refusals.{config_refusal}
use Rattle.ilp_refusals.specs.declared.refusal.Refusal.{Refusal}
use Rattle.ilp_refusals.specs.declared.refusal.Refusal.TheVariants as refusals
use Rattle.ilp_starting.specs.declared.refused.Refused.{Refused}

-- A refusal by the first fault, where there is one, or for want of memory.
abbrev pub IsRefusedBy : Option ConfigFault → Refusal → Type 0
IsRefusedBy first refusal = (fault : ConfigFault) × (fault ≢ Memory → first ≡ Some fault) × (refusal ≡ config_refusal fault)

-- The configuration of a table of TOML that has no fault; else the refusal by its first one.
abbrev pub IsConfigured : Members → Result Configuration Refused → Type 0
IsConfigured t (Ok config) = (first_fault t ≡ None) × (config ≡ configuration t)
IsConfigured t (Err refused) = IsRefusedBy (first_fault t) refused.refusal

-- The refusal of octets that are no TOML.
abbrev pub IsNoConfiguration : Result Configuration Refused → Type 0
IsNoConfiguration (Ok config) = ⊥
IsNoConfiguration (Err refused) = (refused.refusal ≡ refusals.NotToml) ⊎ (refused.refusal ≡ refusals.Memory)
