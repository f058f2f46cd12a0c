-- Levels that are compared.
use Rattle.std.proofs.Common.{◌≡◌, ◌↔◌, ℕ, ℤ, pos, ◌+ℤ◌, ◌≤ℤ◌, Bool, true, false, IsTrue, refl, subst, sym, arith}
use Rattle.std.proofs.lemmas.Int.{ints}
use Rattle.std.specs.Prelude.{int_le}

-- what tells whether a level lies at most so far above another one
pub lies_below : (level from : ℤ) (amount : ℕ) (r : Bool) → r ≡ int_le level (from +ℤ pos amount)
    → (IsTrue r ↔ (level ≤ℤ (from +ℤ pos amount)))
lies_below level from amount r is = subst (λ b. IsTrue b ↔ (level ≤ℤ (from +ℤ pos amount))) (sym is) (by (int_le level (from +ℤ pos amount)) refl)
  where
    by : (b : Bool) → int_le level (from +ℤ pos amount) ≡ b → (IsTrue b ↔ (level ≤ℤ (from +ℤ pos amount)))
    by true e = ((λ yes. omega (arith, ints, e)), (λ h. refl))
    by false e = ((λ (yes : IsTrue false). absurd cc), (λ h. absurd (omega (arith, ints, e, h))))

-- a test that failed was not met
pub failed : (b : Bool) → b ≡ false → IsTrue b → ⊥
failed b is met = cc
