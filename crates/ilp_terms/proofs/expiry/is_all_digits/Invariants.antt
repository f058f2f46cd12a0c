use Rattle.std.proofs.Common.{◌↔◌, ℕ, ◌<◌}
use Rattle.std.specs.Prelude.{slice_index, IsTrue}
use Rattle.std.specs.Int.{IsInRange}
use Rattle.ilp_terms.proofs.expiry.is_all_digits.Given as goal

-- so far each place has a digit, or one has none
abbrev pub invariant-loop-octet : goal.invariant-loop-octet
invariant-loop-octet l =
    IsTrue l.passed ↔ ((place : ℕ) → place < l.octet-index → IsInRange 48 57 (slice_index l.text place))
