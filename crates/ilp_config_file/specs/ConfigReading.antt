-- When a configuration is not read.
use Rattle.std.specs.Prelude.{ℕ, ◌+◌, ◌<◌, List, length, Option, IfSome}
use Rattle.ilp_io.specs.Counts.{Tally, TalliesUpTo}
use Rattle.ilp_io.specs.Reading.{ConsumesFirst}

-- the most octets of a configuration
abbrev pub most_config : ℕ
most_config = 1048576

-- no read failed, and there were more octets than so many, of which one more was read
pub record IsBeyond (most : ℕ) (tally tally_after : Option Tally) (old new : Option (List ℕ)) : Type 0 where
  pub unfailed : TalliesUpTo tally tally_after (most + 1) 0
  pub more : IfSome old (λ octets. most < length octets)
  pub read : ConsumesFirst old new (most + 1)
