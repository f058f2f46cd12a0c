-- What was written to a sink whose octets are known.
use Rattle.std.specs.Prelude.{◌≡◌, ℕ, ◌<◌, List, ◌++◌, length, Option}
use Rattle.std.specs.Io.KnownBytes.{Appends}

-- some first octets were written: none, a part or all
pub record AppendsPrefix (old new : Option (List ℕ)) (octets : List ℕ) : Type 0 where
  pub written : List ℕ
  pub rest : List ℕ
  pub whole : octets ≡ written ++ rest
  pub taken : Appends old new written

-- some first octets were written, and not all
pub record AppendsProperPrefix (old new : Option (List ℕ)) (octets : List ℕ) : Type 0 where
  pub written : List ℕ
  pub rest : List ℕ
  pub whole : octets ≡ written ++ rest
  pub taken : Appends old new written
  pub missing : 0 < length rest
