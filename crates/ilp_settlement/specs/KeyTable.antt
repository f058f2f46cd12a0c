-- Which entry is kept under which key of a peer (RFC 0038, "Idempotence").
use Rattle.std.specs.Prelude.{◌≡◌, ℕ, ◌==◌, ◌&&◌, List, Option, Some, option_and_then, if◌then◌else◌}
use Rattle.std.specs.Str.{bytes_eq}
use Rattle.std.specs.Map.{lookup}

-- the keys of one peer, each with its entry
abbrev pub PeerKeys : Type 0
PeerKeys = List (List ℕ × ℕ)

-- the peers that have keys, each with its own
abbrev pub PlainKeyTable : Type 0
PlainKeyTable = List (ℕ × PeerKeys)

-- the entry that is kept under a key of a peer
abbrev pub entry_of : PlainKeyTable → ℕ → List ℕ → Option ℕ
entry_of table peer key = option_and_then (lookup (λ k. bytes_eq key k)) (lookup (λ p. peer == p) table)

-- the entry is kept under this key of this peer, and under every other key, and of every other peer, what was kept before
abbrev pub Keeps : PlainKeyTable → PlainKeyTable → ℕ → List ℕ → ℕ → Type 0
Keeps old new peer key entry =
    (p : ℕ) (k : List ℕ) → entry_of new p k ≡ (if (peer == p) && bytes_eq key k then Some entry else entry_of old p k)
