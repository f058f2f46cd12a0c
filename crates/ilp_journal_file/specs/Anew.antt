-- The new file beside a log.
use Rattle.std.specs.Prelude.{ℕ, List, [], Option, Some, None}
use Rattle.ilp_journal_file.specs.declared.given.GivenFile.{GivenFile}

-- its octets, where there is one
abbrev pub octets_of : {F : Type 0} → (F → List ℕ) → Option (GivenFile F) → List ℕ
octets_of seen None = []
octets_of seen (Some anew) = seen anew.file
