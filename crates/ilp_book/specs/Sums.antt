-- How far what a book comes to can lie from 0.
use Rattle.std.specs.Prelude.{ℤ, pos, ◌+ℤ◌, ◌≤ℤ◌}
use Rattle.ilp_journal.specs.Booked.{most_sum}
use Rattle.ilp_book.specs.declared.calls.Sums.{Sums}

-- no further than amounts of 64 bits come to, one from each of the at most 2^32 entries
pub record IsWithin (n : ℤ) : Type 0 where
  pub low : pos 0 ≤ℤ (n +ℤ pos most_sum)
  pub high : n ≤ℤ pos most_sum

-- nor does any of the sums of an asset
pub record AreWithin (sums : Sums) : Type 0 where
  pub settled : IsWithin sums.settled
  pub held : IsWithin sums.held
  pub fees : IsWithin sums.fees
  pub bought : IsWithin sums.bought
  pub sold : IsWithin sums.sold
