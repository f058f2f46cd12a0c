-- A text that begins with a minus.
use Rattle.std.proofs.Common.{◌≡◌, ◌≢◌, ◌==◌, Bool, ap, true, false, ◌∙◌, ℕ, List, [], ◌∷◌, Option, Some, None, option_map, refl, sym, arith}
use Rattle.std.specs.Prelude.{MatchOption}
use Rattle.std.specs.Borrow.{Bor}
use Rattle.std.proofs.lemmas.Bool.{eqb-true}
use Rattle.ilp_settlement.specs.Correction.{behind_minus}

pub behind_minus-from : (bs : List ℕ) (r : Option (Bor (List ℕ)))
    → MatchOption r ((rest : List ℕ) → bs ≢ 45 ∷ rest) (λ x. bs ≡ 45 ∷ x.now) → option_map (λ s. s.now) r ≡ behind_minus bs
behind_minus-from [] None h = refl
behind_minus-from [] (Some x) h = cc
behind_minus-from (b ∷ bs) None h = go (b == 45) refl
  where
    go : (t : Bool) → (b == 45) ≡ t → None ≡ behind_minus (b ∷ bs)
    go true e = absurd (h bs (ap (λ n. n ∷ bs) (eqb-true b 45 e)))
    go false e = rw e
behind_minus-from (b ∷ bs) (Some x) h = sym (ap behind_minus h)
