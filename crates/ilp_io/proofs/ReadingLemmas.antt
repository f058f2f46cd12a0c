-- What was read of a source, over several calls.
use Rattle.std.proofs.Common.{◌≡◌, ℕ, ◌+◌, ◌≤◌, List, ◌++◌, length, take, Option, Some, None, refl, sym, subst, arith, length-append}
use Rattle.std.specs.Prelude.{IfSome}
use Rattle.std.specs.Io.KnownBytes.{Consumes}
use Rattle.std.proofs.KnownBytes.{Consumes-trans, Consumes-whole}
use Rattle.ilp_io.specs.Reading.{IsReadWhole, ConsumesFirst, ConsumesUpTo}

-- what holds of the octets that came, whatever follows them, holds of all that there were
pub Consumes-stream : (start left : Option (List ℕ)) (seen : List ℕ) (P : List ℕ → Type 0)
    → Consumes start left seen → ((more : List ℕ) → P (seen ++ more)) → IfSome start P
Consumes-stream None left seen P came holds = tt
Consumes-stream (Some xs) None seen P came holds = absurd came
Consumes-stream (Some xs) (Some ys) seen P came holds = subst P (sym came) (holds ys)

-- a source that was read whole had these octets
pub IsReadWhole-all : (start left : Option (List ℕ)) (octets : List ℕ) → IsReadWhole start left octets → IfSome start (λ xs. xs ≡ octets)
IsReadWhole-all start left octets whole = Consumes-whole start left octets (λ xs. xs ≡ octets) whole.read whole.at_end refl

-- some octets, and then the rest whole
pub IsReadWhole-after : (start between left : Option (List ℕ)) (first rest : List ℕ)
    → Consumes start between first → IsReadWhole between left rest → IsReadWhole start left (first ++ rest)
IsReadWhole-after start between left first rest came whole =
    record { read = Consumes-trans start between left first rest came whole.read; at_end = whole.at_end }

-- a source gave no more octets than it had
pub ConsumesFirst-within : (start left : Option (List ℕ)) (count : ℕ) → ConsumesFirst start left count → IfSome start (λ xs. count ≤ length xs)
ConsumesFirst-within start left count first =
    Consumes-stream start left first.octets (λ xs. count ≤ length xs) first.read
    (λ more. omega (arith, length-append first.octets more, first.counted))

-- just so many are at most so many
pub ConsumesUpTo-of_first : (start left : Option (List ℕ)) (count most : ℕ) → count ≤ most → ConsumesFirst start left count → ConsumesUpTo start left most
ConsumesUpTo-of_first start left count most le first = record { octets = first.octets; read = first.read; few = omega (arith, first.counted) }

-- some octets, and then the front of a piece
pub ConsumesFirst-after : (u v w : Option (List ℕ)) (seen piece : List ℕ) (count total : ℕ)
    → Consumes u v seen → Consumes v w (take count piece) → count ≡ length (take count piece) → length seen + count ≡ total → ConsumesFirst u w total
ConsumesFirst-after u v w seen piece count total first next told sum = record {
  octets = seen ++ take count piece;
  read = Consumes-trans u v w seen (take count piece) first next;
  counted = omega (arith, length-append seen (take count piece), told, sum);
}
