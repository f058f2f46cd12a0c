-- What meets a condition (RFC 0027, FIPS 180-4).
use Rattle.std.specs.Prelude.{ℕ, Bool, List}
use Rattle.std.specs.Str.{bytes_eq}
use Rattle.sha2.specs.Sha256.{sha256}

-- whether the preimage's SHA-256 digest is the condition
abbrev pub meets : List ℕ → List ℕ → Bool
meets condition preimage = bytes_eq (sha256 preimage) condition
