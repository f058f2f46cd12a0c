-- What was read of a source whose octets are known.
use Rattle.std.specs.Prelude.{◌≡◌, ℕ, ◌≤◌, List, length, Option, Result, Ok, Err}
use Rattle.std.specs.Io.KnownBytes.{Consumes, IsAtEnd}
use Rattle.ilp_io.specs.declared.reading.ReadFault.{ReadFault}
use Rattle.ilp_io.specs.declared.reading.ReadFault.TheVariants.{Failed, TooLong, Memory}

-- these octets were read, and nothing is left
pub record IsReadWhole (old new : Option (List ℕ)) (octets : List ℕ) : Type 0 where
  pub read : Consumes old new octets
  pub at_end : IsAtEnd new

-- just so many octets were read, from the front
pub record ConsumesFirst (old new : Option (List ℕ)) (count : ℕ) : Type 0 where
  pub octets : List ℕ
  pub read : Consumes old new octets
  pub counted : length octets ≡ count

-- at most so many octets were read, from the front
pub record ConsumesUpTo (old new : Option (List ℕ)) (most : ℕ) : Type 0 where
  pub octets : List ℕ
  pub read : Consumes old new octets
  pub few : length octets ≤ most

-- how many reads failed, by how the reading ended
abbrev pub failed_reads : {T : Type 0} → Result T ReadFault → ℕ
failed_reads (Ok octets) = 0
failed_reads (Err Failed) = 1
failed_reads (Err TooLong) = 0
failed_reads (Err Memory) = 0
