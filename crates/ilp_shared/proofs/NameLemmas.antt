-- Names as texts have them.
use Rattle.std.proofs.Common.{◌≡◌, List, [], ◌∷◌, map, Bool, true, false, ◌||◌, cond, ◌++◌, refl, ap, ◌∙◌, append_assoc}
use Rattle.std.specs.List.{list_any, filter}

module _ {X Y : Type 0} (test : Y → Bool) (f : X → Y) where
  -- a test of what is made of the items
  pub list_any-map : (xs : List X) → list_any test (map f xs) ≡ list_any (λ x. test (f x)) xs
  list_any-map [] = refl
  list_any-map (x ∷ xs) = ap (λ b. test (f x) || b) (list_any-map xs)

  -- one more item, which stays or not
  one_more : (b : Bool) (x : X) (kept : List X) (others : List Y) → map f kept ≡ others → map f (cond b (x ∷ kept) kept) ≡ cond b (f x ∷ others) others
  one_more true x kept others same = ap (λ rest. f x ∷ rest) same
  one_more false x kept others same = same

  -- what is made of the items that stay
  pub filter-map : (xs : List X) → map f (filter (λ x. test (f x)) xs) ≡ filter test (map f xs)
  filter-map [] = refl
  filter-map (x ∷ xs) = one_more (test (f x)) x (filter (λ y. test (f y)) xs) (filter test (map f xs)) (filter-map xs)

-- five pieces, one behind the other
pub in_row : {X : Type 0} (old label name spaces number : List X) → (((old ++ label) ++ name) ++ spaces) ++ number ≡ old ++ (label ++ ((name ++ spaces) ++ number))
in_row old label name spaces number =
    ap (λ xs. xs ++ number) (append_assoc (old ++ label) name spaces) ∙ append_assoc (old ++ label) (name ++ spaces) number
    ∙ append_assoc old label ((name ++ spaces) ++ number)
