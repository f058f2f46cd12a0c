-- What a connector that runs can't take over from another configuration.
use Rattle.std.specs.Prelude.{◌≡◌, ◌≢◌, ⊤}
use Rattle.ilp_fields.specs.declared.fault.Field.{Field}
use Rattle.ilp_fields.specs.declared.fault.Field.TheVariants.{Address, Run, Listen, EngineListen, Workers}
use Rattle.ilp_accounts.specs.Configuration.{Configuration}

-- It has the same address, run, places to listen at and number of workers.
pub record MayTakeOver (C next : Configuration) : Type 0 where
  pub address : next.settings.address ≡ C.settings.address
  pub run : next.settings.run ≡ C.settings.run
  pub listen : next.settings.listen ≡ C.settings.listen
  pub engine_listen : next.settings.engine_listen ≡ C.settings.engine_listen
  pub workers : next.settings.workers ≡ C.settings.workers

-- the fields of the top that stand before this one among these are the same
abbrev pub AreSameBefore : Configuration → Configuration → Field → Type 0
AreSameBefore C next Run = next.settings.address ≡ C.settings.address
AreSameBefore C next Listen = (next.settings.address ≡ C.settings.address) × (next.settings.run ≡ C.settings.run)
AreSameBefore C next EngineListen = (next.settings.address ≡ C.settings.address) × (next.settings.run ≡ C.settings.run)
    × (next.settings.listen ≡ C.settings.listen)
AreSameBefore C next Workers = (next.settings.address ≡ C.settings.address) × (next.settings.run ≡ C.settings.run)
    × (next.settings.listen ≡ C.settings.listen) × (next.settings.engine_listen ≡ C.settings.engine_listen)
AreSameBefore C next _ = ⊤

-- this field differs, which is one of them
abbrev pub Differs : Configuration → Configuration → Field → Type 0
Differs C next Address = next.settings.address ≢ C.settings.address
Differs C next Run = next.settings.run ≢ C.settings.run
Differs C next Listen = next.settings.listen ≢ C.settings.listen
Differs C next EngineListen = next.settings.engine_listen ≢ C.settings.engine_listen
Differs C next Workers = next.settings.workers ≢ C.settings.workers
Differs C next _ = ⊥

-- it is the first of them that differs
abbrev pub NeedsRestart : Configuration → Configuration → Field → Type 0
NeedsRestart C next field = AreSameBefore C next field × Differs C next field
