-- Reads of a source, one after another.
use Rattle.std.specs.Prelude.{ℕ, List, [], ◌++◌}

-- Reads led from one source to another and gave these octets, where `pulled` relates the source before a read, its octets and the source after it. Each was made where the octets before it were unfinished.
pub data PullsWhile {S : Type 0} (pulled : S → List ℕ → S → Type 0) (Unfinished : List ℕ → Type 0) (start : S) : List ℕ → S → Type 0 where
  no_pull : PullsWhile pulled Unfinished start [] start
  one_more : (octets last : List ℕ) (between end : S) → PullsWhile pulled Unfinished start octets between → Unfinished octets → pulled between last end
      → PullsWhile pulled Unfinished start (octets ++ last) end
