-- Octets that begin with others.
use Rattle.std.proofs.Common.{◌≡◌, ℕ, List, ◌++◌, ◌↔◌, Bool, IsTrue, ap, sym, ◌∙◌}
use Rattle.std.proofs.lemmas.List.{append_cancel_left}

-- what tells that others stand behind a front tells that the whole is the front and the others
pub told_behind : (told : Bool) (octets front rest after : List ℕ) → octets ≡ front ++ rest → (IsTrue told ↔ (rest ≡ after)) → (IsTrue told ↔ (octets ≡ front ++ after))
told_behind told octets front rest after begins tells = (
  λ yes. begins ∙ ap (λ (l : List ℕ). front ++ l) (tells.0 yes),
  λ is. tells.1 (append_cancel_left front rest after (sym begins ∙ is)),
)

-- what tells of one list tells of the same list
pub told_as : (told : Bool) (octets named same : List ℕ) → named ≡ same → (IsTrue told ↔ (octets ≡ named)) → (IsTrue told ↔ (octets ≡ same))
told_as told octets named same is tells = (λ yes. tells.0 yes ∙ is, λ so. tells.1 (so ∙ sym is))
