-- A digest of SHA-256 has 32 octets.
use Rattle.std.proofs.Common.{ℕ, zero, suc, ◌+◌, ◌<◌, List, [], ◌∷◌, ◌++◌, arith}
use Rattle.std.specs.Prelude.{slice_index}
use Rattle.std.specs.Int.{to_be_bytes, w32}
use Rattle.sha2.specs.Sha256.{digest_bytes, sha256}
use Rattle.sha2.proofs.Facts256.{length-sha256}
use Rattle.hex.specs.Hex.{IsBytes}
use Rattle.ilp_journal_text.specs.Reading.{AreOctets}

bytes-append : (xs ys : List ℕ) → IsBytes xs → IsBytes ys → IsBytes (xs ++ ys)
bytes-append [] ys x y i = y i
bytes-append (a ∷ xs) ys x y zero = x zero
bytes-append (a ∷ xs) ys x y (suc i) = bytes-append xs ys (λ j. x (suc j)) y i

word_bytes : (w : ℕ) → IsBytes (to_be_bytes w32 w)
word_bytes w zero = omega arith
word_bytes w (suc zero) = omega arith
word_bytes w (suc (suc zero)) = omega arith
word_bytes w (suc (suc (suc zero))) = omega arith
word_bytes w (suc (suc (suc (suc i)))) = omega arith

digest_is_bytes : (h : List ℕ) (n : ℕ) → IsBytes (digest_bytes h n)
unfolding digest_bytes
digest_is_bytes h zero i = omega arith
digest_is_bytes h (suc n) i = bytes-append (digest_bytes h n) (to_be_bytes w32 (slice_index h n)) (digest_is_bytes h n) (word_bytes (slice_index h n)) i

are_bytes : (m : List ℕ) → IsBytes (sha256 m)
unfolding sha256
are_bytes m = digest_is_bytes _ 8

pub digest_octets : (m : List ℕ) → AreOctets 32 (sha256 m)
digest_octets m = (length-sha256 m, are_bytes m)
