-- Lists of octets, and what a clause sees of an `Octets`.
use Rattle.std.specs.Prelude.{ℕ, ◌<◌, List, All}

-- each number of the list is an octet
abbrev pub AreOctets : List ℕ → Type 0
AreOctets = All (λ octet. octet < 256)

-- the octets, and how many more fit without memory
pub record OctetsWithRoom : Type 0 where
  pub octets : List ℕ
  pub spare : ℕ
