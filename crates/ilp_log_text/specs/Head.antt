-- The first two lines of a log's file: which text of the journal it goes on from, and what is remembered of the run.
use Rattle.std.specs.Prelude.{ℕ, List, [], ◌∷◌, ◌++◌, codes}
use Rattle.std.specs.List.{flat_map}
use Rattle.std.specs.Fmt.{decimal}
use Rattle.sha2.specs.Sha256.{sha256}
use Rattle.hex.specs.Hex.{encode_lower}
use Rattle.ilp_accounts.specs.Configuration.{Configuration, PlainPeer}
use Rattle.ilp_remembered.specs.Remembered.{asset_of, run_line, peer_line}

-- the first line: how many entries the text has that the log goes on from, and the digest of that text
abbrev pub first_line : ℕ → List ℕ → List ℕ
first_line count digest = codes "ilp-log 1 " ++ (decimal count ++ (codes " " ++ encode_lower digest))

-- what stands of a peer in the second line
abbrev pub further_line : Configuration → PlainPeer → List ℕ
further_line C p = codes "; " ++ peer_line p.name (asset_of C p)

-- the second line: the run, and each peer with its asset
abbrev pub second_line : Configuration → List ℕ
second_line C = run_line C.settings.run ++ flat_map (further_line C) C.peers

-- both, without their ends, of a log that goes on from this text of so many entries
abbrev pub head_lines : Configuration → ℕ → List ℕ → List (List ℕ)
head_lines C count saved = first_line count (sha256 saved) ∷ second_line C ∷ []
