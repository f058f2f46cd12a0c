-- The numbers in the fields of a line.
use Rattle.std.proofs.Common.{◌≡◌, ◌≤◌, ℕ, List, length, Some, true, arith}
use Rattle.std.specs.Char.{is_ascii_digit}
use Rattle.std.specs.List.{list_all}
use Rattle.std.specs.Str.Parse.{digits_value}
use Rattle.std.proofs.lemmas.Bool.Decides.{nat_tests}
use Rattle.ilp_offline.specs.Script.{number_in}

-- the number that a text of at most 15 digits writes
pub number_in-digits : (most : ℕ) (text : List ℕ) → 1 ≤ length text → length text ≤ most → list_all is_ascii_digit text ≡ true → number_in most text ≡ Some (digits_value 10 text)
number_in-digits most text some fits digits = grind (arith, nat_tests)
