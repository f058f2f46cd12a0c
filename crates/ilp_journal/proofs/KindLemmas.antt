-- Kinds of credits that are told to be the same are.
use Rattle.std.proofs.Common.{◌≡◌, true, refl, ap}
use Rattle.std.proofs.lemmas.Slice.Eq.{bytes_eq-Decides}
use Rattle.ilp_journal.specs.declared.credit_kind.CreditKind.{CreditKind}
use Rattle.ilp_journal.specs.declared.credit_kind.CreditKind.TheVariants.{Settled, Raised, Lowered}
use Rattle.ilp_journal.specs.Credits.{same_kind}

pub same_kinds : (a b : CreditKind) → same_kind a b ≡ true → a ≡ b
same_kinds Settled Settled is = refl
same_kinds Settled (Raised told) is = absurd cc
same_kinds Settled (Lowered told) is = absurd cc
same_kinds (Raised reason) Settled is = absurd cc
same_kinds (Raised reason) (Raised told) is = ap Raised ((bytes_eq-Decides reason told).0 is)
same_kinds (Raised reason) (Lowered told) is = absurd cc
same_kinds (Lowered reason) Settled is = absurd cc
same_kinds (Lowered reason) (Raised told) is = absurd cc
same_kinds (Lowered reason) (Lowered told) is = ap Lowered ((bytes_eq-Decides reason told).0 is)
