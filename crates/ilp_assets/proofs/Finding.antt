-- The first element that passes a test, by its place.
use Rattle.std.proofs.Common.{◌≡◌, ℕ, suc, ◌+◌, ◌<◌, Bool, true, false, ◌||◌, List, [], ◌∷◌, ◌++◌, length, refl, sym, ◌∙◌, ap, arith, cond, map, get_or, Some, None}
use Rattle.std.specs.Prelude.{slice_get, find, option_map, is_some}
use Rattle.std.specs.List.{position_from, list_any}
use Rattle.std.proofs.lemmas.List.{length-map}
use Rattle.std.proofs.lemmas.Option.{slice_get_within, slice_get_read, slice_get-map, same_Some}

-- what stands at the first place that passes, places being counted from i
pub record IsFirst {X : Type 0} (test : X → Bool) (xs : List X) (i k : ℕ) : Type 0 where
  pub place : ℕ
  pub counted : k ≡ i + place
  pub element : X
  pub at : slice_get xs place ≡ Some element
  pub found : find test xs ≡ Some element
  pub passes : test element ≡ true

first_either : {X : Type 0} (test : X → Bool) (i : ℕ) (x : X) (xs : List X) (k : ℕ) (b : Bool) → test x ≡ b → cond b (Some i) (position_from test (i + 1) xs) ≡ Some k → ((k : ℕ) → position_from test (i + 1) xs ≡ Some k → IsFirst test xs (i + 1) k) → IsFirst test (x ∷ xs) i k
first_either test i x xs k true e h later =
    let counted : k ≡ i = cc in
    record { place = 0; counted = omega arith; element = x; at = refl; found = rw e refl; passes = e }
first_either test i x xs k false e h later =
    let rest : IsFirst test xs (i + 1) k = later k h in
    record { place = suc rest.place; counted = omega arith; element = rest.element; at = rest.at; found = rw e rest.found; passes = rest.passes }

-- the first place holds the first element
pub position_from-Some : {X : Type 0} (test : X → Bool) (i : ℕ) (xs : List X) (k : ℕ) → position_from test i xs ≡ Some k → IsFirst test xs i k
position_from-Some test i [] k h = cc
position_from-Some test i (x ∷ xs) k h = first_either test i x xs k (test x) refl h (λ k. position_from-Some test (i + 1) xs k)

none_either : {X : Type 0} (test : X → Bool) (i : ℕ) (x : X) (xs : List X) (b : Bool) → test x ≡ b → cond b (Some i) (position_from test (i + 1) xs) ≡ None → (position_from test (i + 1) xs ≡ None → find test xs ≡ None) → cond b (Some x) (find test xs) ≡ None
none_either test i x xs true e h later = cc
none_either test i x xs false e h later = later h

-- where no place passes, no element does
pub position_from-None : {X : Type 0} (test : X → Bool) (i : ℕ) (xs : List X) → position_from test i xs ≡ None → find test xs ≡ None
position_from-None test i [] h = refl
position_from-None test i (x ∷ xs) h = none_either test i x xs (test x) refl h (position_from-None test (i + 1) xs)

-- what stands at a place of a list that is seen by a view
pub seen_at : {X Y : Type 0} (view : X → Y) (xs : List X) (k : ℕ) (x : X) (y : Y) → slice_get (map view xs) k ≡ Some y → x ≡ get_or xs k x → view x ≡ y
seen_at view xs k x y at read =
    let within : k < length xs = rw length-map at (slice_get_within (map view xs) k y at) in
    let here : slice_get xs k ≡ Some x = slice_get_read xs (length xs) k x refl within read in
    same_Some (view x) y (sym (slice_get-map view xs k ∙ ap (option_map view) here) ∙ at)

-- a place that such a list has is within it
pub seen_within : {X Y : Type 0} (view : X → Y) (xs : List X) (k : ℕ) (y : Y) → slice_get (map view xs) k ≡ Some y → k < length xs
seen_within view xs k y at = rw length-map at (slice_get_within (map view xs) k y at)

added_either : {X : Type 0} (test : X → Bool) (i : ℕ) (x : X) (xs : List X) (new : X) (b : Bool) → cond b (Some i) (position_from test (i + 1) xs) ≡ None → (position_from test (i + 1) xs ≡ None → position_from test (i + 1) (xs ++ new ∷ []) ≡ Some (i + 1 + length xs)) → cond b (Some i) (position_from test (i + 1) (xs ++ new ∷ [])) ≡ Some (i + suc (length xs))
added_either test i x xs new true none later = cc
added_either test i x xs new false none later =
    let e : i + 1 + length xs ≡ i + suc (length xs) = omega arith in
    later none ∙ ap Some e

-- where no element passes, one that is added and passes is the first
pub position_from-added : {X : Type 0} (test : X → Bool) (i : ℕ) (xs : List X) (new : X) → position_from test i xs ≡ None → test new ≡ true → position_from test i (xs ++ new ∷ []) ≡ Some (i + length xs)
position_from-added test i [] new none passes =
    let e : i ≡ i + 0 = omega arith in
    rw passes (ap Some e)
position_from-added test i (x ∷ xs) new none passes = added_either test i x xs new (test x) none (λ h. position_from-added test (i + 1) xs new h passes)

-- an element that is added and does not pass changes no first place
pub position_from-kept : {X : Type 0} (test : X → Bool) (i : ℕ) (xs : List X) (new : X) → test new ≡ false → position_from test i (xs ++ new ∷ []) ≡ position_from test i xs
position_from-kept test i [] new fails = rw fails refl
position_from-kept test i (x ∷ xs) new fails = ap (λ r. cond (test x) (Some i) r) (position_from-kept test (i + 1) xs new fails)

-- some place passes where any element does
pub position_from-any : {X : Type 0} (test : X → Bool) (i : ℕ) (xs : List X) → is_some (position_from test i xs) ≡ list_any test xs
position_from-any test i [] = refl
position_from-any test i (x ∷ xs) = elim (test x) as (λ b. is_some (cond b (Some i) (position_from test (i + 1) xs)) ≡ (b || list_any test xs)) [
  | true ↦ refl
  | false ↦ position_from-any test (i + 1) xs
]
