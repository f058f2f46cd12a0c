-- Which numbers fit their column.
use Rattle.std.proofs.Common.{ℕ, suc, ◌^◌, ◌<◌, ◌≤◌, ℤ, pos, negsuc, length, arith, lit<}
use Rattle.std.specs.Fmt.{decimal}
use Rattle.std.proofs.lemmas.Fmt.{length-decimal-le_wide}
use Rattle.std.proofs.lemmas.Int.{ints}
use Rattle.ilp_journal.specs.Booked.{most_sum}
use Rattle.ilp_book.specs.declared.calls.Sums.{Sums}
use Rattle.ilp_book.specs.Sums.{IsWithin, AreWithin}
use Rattle.ilp_report.specs.Columns.{IsNarrow}
use Rattle.ilp_report.specs.Sound.{AreNarrow}

-- a number that lies no further from 0 than sums do
pub near_is_narrow : (z : ℤ) → IsWithin z → IsNarrow z
near_is_narrow (pos n) within =
    let near : n ≤ most_sum = omega (arith, ints, within.high) in
    let small : n < 10 ^ 30 = omega (arith, near) in
    length-decimal-le_wide 30 n (lit< tt) small (omega (arith, small))
near_is_narrow (negsuc n) within =
    let near : suc n ≤ most_sum = omega (arith, ints, within.low) in
    let small : suc n < 10 ^ 29 = omega (arith, near) in
    let short : length (decimal (suc n)) ≤ 29 = length-decimal-le_wide 29 (suc n) (lit< tt) small (omega (arith, small)) in
    omega (arith, short)

-- a number of 32 bits
pub count_is_narrow : (n : ℕ) → n < 2 ^ 32 → IsNarrow (pos n)
count_is_narrow n few = near_is_narrow (pos n) (record { low = omega (arith, ints); high = omega (arith, ints, few) })

-- what the books of an asset come to
pub sums_are_narrow : (s : Sums) → AreWithin s → AreNarrow s
sums_are_narrow s within = record {
  settled = near_is_narrow s.settled within.settled;
  held = near_is_narrow s.held within.held;
  fees = near_is_narrow s.fees within.fees;
  bought = near_is_narrow s.bought within.bought;
  sold = near_is_narrow s.sold within.sold;
}
