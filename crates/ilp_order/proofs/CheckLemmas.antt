-- Checks in order: where none has a fault, each of them has none.
use Rattle.std.proofs.Common.{◌≡◌, ℕ, zero, suc, Bool, true, false, List, [], ◌∷◌, ◌++◌, take, refl, sym, ◌∙◌, append_assoc, append-nil, Option, Some, None, ◌+◌, ◌<◌, length, get_or, drop, map, ap, add-one}
use Rattle.std.proofs.Math.Seq.{take-suc, drop-cons}
use Rattle.std.proofs.lemmas.List.{map-append}
use Rattle.std.specs.Prelude.{slice_get, slice_index_or}
use Rattle.ilp_order.specs.Checks.{first_of, when, first_along}

-- where checks have no fault, the first of them has none, and neither have the others
pub first_of-None : {E : Type 0} (check : Option E) (checks : List (Option E)) → first_of (check ∷ checks) ≡ None → (check ≡ None) × (first_of checks ≡ None)
first_of-None None checks h = (refl, h)
first_of-None (Some fault) checks h = cc

-- where checks have no fault, none of them has one
pub passed : {E : Type 0} (checks : List (Option E)) → first_of checks ≡ None → (place : ℕ) → slice_index_or checks place None ≡ None
passed [] none place = refl
passed (None ∷ checks) none zero = refl
passed (None ∷ checks) none (suc place) = passed checks none place
passed (Some fault ∷ checks) none place = cc

-- a check with no fault leaves the others to decide
pub first_of-rest : {E : Type 0} (check : Option E) (checks : List (Option E)) → check ≡ None → first_of (check ∷ checks) ≡ first_of checks
first_of-rest None checks h = refl
first_of-rest (Some fault) checks h = cc

-- a lone check decides
pub first_of-lone : {E : Type 0} (check : Option E) → first_of (check ∷ []) ≡ check
first_of-lone None = refl
first_of-lone (Some fault) = refl

-- where a check has no fault, its test fails
pub when-None : {E : Type 0} (fails : Bool) (fault : E) → when fails fault ≡ None → fails ≡ false
when-None false fault h = refl
when-None true fault h = cc

module _ {X E : Type 0} (fault : List X → X → Option E) where
  -- one step along a list without a fault
  pub first_along-step : (before : List X) (x : X) (xs : List X) → fault before x ≡ None → first_along fault before (x ∷ xs) ≡ first_along fault (before ++ x ∷ []) xs
  first_along-step before x xs none =
      first_of-rest (fault before x) (first_along fault (before ++ x ∷ []) xs ∷ []) none
      ∙ first_of-lone (first_along fault (before ++ x ∷ []) xs)

  -- where a list has no fault, its first element has none, and neither has the rest
  pub first_along-None : (before : List X) (x : X) (xs : List X) → first_along fault before (x ∷ xs) ≡ None → (fault before x ≡ None) × (first_along fault (before ++ x ∷ []) xs ≡ None)
  first_along-None before x xs none =
      let parts = first_of-None (fault before x) (first_along fault (before ++ x ∷ []) xs ∷ []) none in
      (parts.0, sym (first_of-lone (first_along fault (before ++ x ∷ []) xs)) ∙ parts.1)

  -- where a list has no fault, each element has none beside those before it
  pub first_along-at : (before xs : List X) (j : ℕ) (x : X) → first_along fault before xs ≡ None → slice_get xs j ≡ Some x → fault (before ++ take j xs) x ≡ None
  first_along-at before [] j x none at = cc
  first_along-at before (y ∷ ys) zero x none at =
      let same : y ≡ x = cc in
      let here : fault before x ≡ None = rw (← same) (first_along-None before y ys none).0 in
      rw append-nil here
  first_along-at before (y ∷ ys) (suc j) x none at =
      let later : fault ((before ++ y ∷ []) ++ take j ys) x ≡ None = first_along-at (before ++ y ∷ []) ys j x (first_along-None before y ys none).1 at in
      rw append_assoc at later

  -- an element that is added to a list is looked at beside all those before it
  pub first_along-snoc : (before xs : List X) (x : X) → first_along fault before xs ≡ None → fault (before ++ xs) x ≡ None → first_along fault before (xs ++ x ∷ []) ≡ None
  first_along-snoc before [] x none here =
      first_along-step before x [] (rw append-nil at here)
  first_along-snoc before (y ∷ ys) x none here =
      let parts = first_along-None before y ys none in
      first_along-step before y (ys ++ x ∷ []) parts.0
      ∙ first_along-snoc (before ++ y ∷ []) ys x parts.1 (rw append_assoc here)

-- along a list that is seen by a view, an element without a fault joins those before it, and the first fault of the rest stays
pub first_along-turn : {X Y E : Type 0} (fault : List Y → Y → Option E) (view : X → Y) (xs : List X) (i : ℕ) (x : X) → i < length xs → fault (map view (take i xs)) (view (get_or xs i x)) ≡ None → (map view (take (i + 1) xs) ≡ map view (take i xs) ++ view (get_or xs i x) ∷ []) × (first_along fault (map view (take (i + 1) xs)) (map view (drop (i + 1) xs)) ≡ first_along fault (map view (take i xs)) (map view (drop i xs)))
first_along-turn fault view xs i x within none =
    let y = get_or xs i x in
    let before = map view (take i xs) in
    let joined : map view (take (i + 1) xs) ≡ before ++ view y ∷ [] = ap (λ n. map view (take n xs)) (add-one i) ∙ ap (map view) (take-suc xs i x within) ∙ map-append view (take i xs) (y ∷ []) in
    let parted : map view (drop i xs) ≡ view y ∷ map view (drop (i + 1) xs) = ap (map view) (drop-cons xs i x within) ∙ ap (λ n. view y ∷ map view (drop n xs)) (sym (add-one i)) in
    (joined, ap (λ b. first_along fault b (map view (drop (i + 1) xs))) joined ∙ sym (first_along-step fault before (view y) (map view (drop (i + 1) xs)) none) ∙ ap (first_along fault before) (sym parted))
