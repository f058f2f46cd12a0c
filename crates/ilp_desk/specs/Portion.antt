-- A share as contracts see it, and what an actor hands back in the end.
use Rattle.std.specs.Prelude.{ℕ, List}
use Rattle.ilp_desk.specs.declared.record.Record.{Record}

-- an actor, and how many entries it booked
pub record Portion : Type 0 where
  pub actor : ℕ
  pub entries : ℕ

abbrev pub portion : ℕ → ℕ → Portion
portion actor entries = record { actor = actor; entries = entries }

-- a share, and the records of what was booked with it
pub record Holding : Type 0 where
  pub share : Portion
  pub records : List Record

abbrev pub holding : Portion → List Record → Holding
holding share records = record { share = share; records = records }
