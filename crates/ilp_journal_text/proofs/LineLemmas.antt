-- A line that grows field by field.
use Rattle.std.proofs.Common.{◌≡◌, ℕ, List, [], ◌++◌, sym, ap, ◌∙◌}
use Rattle.std.proofs.lemmas.List.{append-nil, append_assoc}

-- the last field
pub ended : (u v field : List ℕ) → v ≡ u ++ field → v ≡ u ++ (field ++ [])
ended u v field h = h ∙ ap (λ (octets : List ℕ). u ++ octets) (sym (append-nil field))

-- a field, and what comes after it
pub more : (u v w field rest : List ℕ) → v ≡ u ++ field → w ≡ v ++ rest → w ≡ u ++ (field ++ rest)
more u v w field rest h k = k ∙ ap (λ (octets : List ℕ). octets ++ rest) h ∙ append_assoc u field rest
