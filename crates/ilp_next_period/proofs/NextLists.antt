-- What of a head is left, as it is made piece by piece.
use Rattle.std.proofs.Common.{◌≡◌, ℕ, suc, ◌+◌, ◌≤◌, Bool, true, false, cond, ◌&&◌, ◌||◌, List, [], ◌∷◌, ◌++◌, drop, Option, Some, None, refl, sym, ap, ap₂, ◌∙◌, subst, arith, add-one, inl, inr, slice_get, option_and_then, filter_map}
use Rattle.std.specs.Prelude.{nat_lt}
use Rattle.std.specs.List.{cons_option}
use Rattle.std.proofs.Math.Seq.{drop-cons}
use Rattle.std.proofs.lemmas.Bool.{cases_Bool, lt-ltb, ltb-true}
use Rattle.std.proofs.lemmas.Option.{slice_get_within, get_or_from_slice_get}
use Rattle.ilp_order.specs.Places.{first_from, places_from}
use Rattle.ilp_journal.specs.Made.{filter_map_from}
use Rattle.ilp_next_period.specs.NextPeriod.{lesser}

-- ---- what is made of a list, from a place on

-- one element further on
drop_at : {X : Type 0} (xs : List X) (n : ℕ) (x : X) → slice_get xs n ≡ Some x → drop n xs ≡ x ∷ drop (n + 1) xs
drop_at xs n x at =
    drop-cons xs n x (slice_get_within xs n x at) ∙ ap₂ (λ y k. y ∷ drop k xs) (get_or_from_slice_get xs n x x at) (sym (add-one n))

pub made-drop : {X Y : Type 0} (f : ℕ → X → Option Y) (xs : List X) (n : ℕ) (x : X) → slice_get xs n ≡ Some x
    → filter_map_from f n (drop n xs) ≡ cons_option (f n x) (filter_map_from f (n + 1) (drop (n + 1) xs))
made-drop f xs n x at = ap (filter_map_from f n) (drop_at xs n x at)

pub mapped-drop : {X Y : Type 0} (f : X → Option Y) (xs : List X) (n : ℕ) (x : X) → slice_get xs n ≡ Some x
    → filter_map f (drop n xs) ≡ cons_option (f x) (filter_map f (drop (n + 1) xs))
mapped-drop f xs n x at = ap (filter_map f) (drop_at xs n x at)

pub cons_option-append : {X : Type 0} (o : Option X) (xs ys : List X) → cons_option o xs ++ ys ≡ cons_option o (xs ++ ys)
cons_option-append None xs ys = refl
cons_option-append (Some x) xs ys = refl

-- what is made of the elements that pass a test, where nothing is made of the others, is made of their places
module _ {X Y : Type 0} (f : X → Option Y) (test : X → Bool) (whole : List X) (none : (x : X) → test x ≡ false → f x ≡ None) where
  abbrev pub made_at : ℕ → Option Y
  made_at k = option_and_then f (slice_get whole k)

  from : (n : ℕ) (xs : List X) → ((k : ℕ) (x : X) → slice_get xs k ≡ Some x → slice_get whole (n + k) ≡ Some x)
      → filter_map_from (λ _ x. f x) n xs ≡ filter_map made_at (places_from (λ _ x. test x) n xs)
  from n [] stands = refl
  from n (x ∷ xs) stands =
      by (test x) refl (subst (λ k. slice_get whole k ≡ Some x) (omega arith) (stands 0 x refl))
      (from (n + 1) xs (λ k y at. subst (λ i. slice_get whole i ≡ Some y) (omega arith) (stands (suc k) y at)))
    where
      by : (b : Bool) → test x ≡ b → slice_get whole n ≡ Some x → filter_map_from (λ _ y. f y) (n + 1) xs ≡ filter_map made_at (places_from (λ _ y. test y) (n + 1) xs)
          → cons_option (f x) (filter_map_from (λ _ y. f y) (n + 1) xs)
          ≡ filter_map made_at (cond b (n ∷ places_from (λ _ y. test y) (n + 1) xs) (places_from (λ _ y. test y) (n + 1) xs))
      by true is here rest = ap₂ cons_option (sym (ap (option_and_then f) here)) rest
      by false is here rest = ap (λ o. cons_option o (filter_map_from (λ _ y. f y) (n + 1) xs)) (none x is) ∙ rest

  pub made_by_places : filter_map_from (λ _ x. f x) 0 whole ≡ filter_map made_at (places_from (λ _ x. test x) 0 whole)
  made_by_places = from 0 whole (λ k x at. subst (λ i. slice_get whole i ≡ Some x) (omega arith) at)

-- ---- what is made behind a place

module _ {X Y : Type 0} (f : ℕ → X → Option Y) (test : ℕ → X → Bool) (none : (n : ℕ) (x : X) → test n x ≡ false → f n x ≡ None) where
  -- what is made where places pass a test
  abbrev pub made_behind : (ℕ → Bool) → ℕ → List X → List Y
  made_behind behind n xs = filter_map_from (λ k x. cond (behind k) (f k x) None) n xs

  nothing : (b : Bool) → ◌≡◌ {A = Option Y} (cond b None None) None
  nothing true = refl
  nothing false = refl

  -- all, where all do
  made_all : (behind other : ℕ → Bool) (n : ℕ) (xs : List X) → ((k : ℕ) → n ≤ k → behind k ≡ other k) → made_behind behind n xs ≡ made_behind other n xs
  made_all behind other n [] same = refl
  made_all behind other n (x ∷ xs) same =
      ap₂ cons_option (ap (λ b. cond b (f n x) None) (same n (omega arith))) (made_all behind other (n + 1) xs (λ k later. same k (omega (arith, later))))

  -- none where no element passes
  pub made_none : (behind : ℕ → Bool) (n : ℕ) (xs : List X) → first_from (λ k x. test k x && behind k) n xs ≡ None → made_behind behind n xs ≡ []
  made_none behind n [] is = refl
  made_none behind n (x ∷ xs) is = by (test n x) (behind n) refl is (made_none behind (n + 1) xs)
    where
      by : (a b : Bool) → test n x ≡ a → cond (a && b) (Some n) (first_from (λ k y. test k y && behind k) (n + 1) xs) ≡ None
          → (first_from (λ k y. test k y && behind k) (n + 1) xs ≡ None → made_behind behind (n + 1) xs ≡ [])
          → cons_option (cond b (f n x) None) (made_behind behind (n + 1) xs) ≡ []
      by true true passes is more = cc
      by true false passes is more = more is
      by false b fails is more = ap (λ o. cons_option (cond b o None) (made_behind behind (n + 1) xs)) (none n x fails) ∙ ap (λ o. cons_option o (made_behind behind (n + 1) xs)) (nothing b) ∙ more is

  -- else what is made of the first, and then what is made behind it, where places behind one that passes pass
  pub made_first : (behind : ℕ → Bool) → ((k m : ℕ) → behind k ≡ true → k ≤ m → behind m ≡ true) → (n m : ℕ) (xs : List X)
      → first_from (λ k x. test k x && behind k) n xs ≡ Some m
      → (x : X) × (k : ℕ) × (m ≡ n + k) × (slice_get xs k ≡ Some x) × ((test m x && behind m) ≡ true) × (made_behind behind n xs ≡ cons_option (f m x) (made_behind (nat_lt m) n xs))
  made_first behind on n m [] is = absurd cc
  made_first behind on n m (x ∷ xs) is = by (test n x) (behind n) refl refl is (made_first behind on (n + 1) m xs)
    where
      not_before : (i j : ℕ) → i ≤ j → nat_lt j i ≡ false
      not_before i j low = elim (cases_Bool (nat_lt j i)) [
        | inl before ↦ absurd (omega (arith, ltb-true j i before, low))
        | inr after ↦ after
      ]

      by : (a b : Bool) → test n x ≡ a → behind n ≡ b → cond (a && b) (Some n) (first_from (λ k y. test k y && behind k) (n + 1) xs) ≡ Some m
          → (first_from (λ k y. test k y && behind k) (n + 1) xs ≡ Some m
          → (y : X) × (k : ℕ) × (m ≡ n + 1 + k) × (slice_get xs k ≡ Some y) × ((test m y && behind m) ≡ true) × (made_behind behind (n + 1) xs ≡ cons_option (f m y) (made_behind (nat_lt m) (n + 1) xs)))
          → (y : X) × (k : ℕ) × (m ≡ n + k) × (slice_get (x ∷ xs) k ≡ Some y) × ((test m y && behind m) ≡ true)
          × (cons_option (cond b (f n x) None) (made_behind behind (n + 1) xs) ≡ cons_option (f m y) (cons_option (cond (nat_lt m n) (f n x) None) (made_behind (nat_lt m) (n + 1) xs)))
      by true true passes there is more =
          let same : n ≡ m = cc in
          let low : nat_lt m n ≡ false = not_before n m (omega (arith, same)) in
          let later : made_behind behind (n + 1) xs ≡ made_behind (nat_lt m) (n + 1) xs
          = made_all behind (nat_lt m) (n + 1) xs (λ k after. on n k there (omega (arith, after)) ∙ sym (lt-ltb m k (omega (arith, after, same)))) in
          (x, 0, omega (arith, same), refl, ap (λ k. test k x && behind k) (sym same) ∙ ap₂ ◌&&◌ passes there, ap₂ cons_option (ap (λ k. f k x) same) (later ∙ sym (ap (λ b. cons_option (cond b (f n x) None) (made_behind (nat_lt m) (n + 1) xs)) low)))
      by true false passes there is more =
          let found = more is in
          let low : nat_lt m n ≡ false = not_before n m (omega (arith, found.2)) in (
            found.0,
            suc found.1,
            omega (arith, found.2),
            found.3,
            found.4,
            found.5 ∙ ap (cons_option (f m found.0)) (sym (ap (λ t. cons_option (cond t (f n x) None) (made_behind (nat_lt m) (n + 1) xs)) low)),
          )
      by false b fails there is more =
          let found = more is in
          let low : nat_lt m n ≡ false = not_before n m (omega (arith, found.2)) in (
            found.0,
            suc found.1,
            omega (arith, found.2),
            found.3,
            found.4,
            ap (λ o. cons_option (cond b o None) (made_behind behind (n + 1) xs)) (none n x fails) ∙ ap (λ o. cons_option o (made_behind behind (n + 1) xs)) (nothing b)
                ∙ found.5 ∙ ap (cons_option (f m found.0)) (sym (ap (λ t. cons_option (cond t (f n x) None) (made_behind (nat_lt m) (n + 1) xs)) low)),
          )

-- ---- the lesser of two first places

pub first_either : {X : Type 0} (one other : ℕ → X → Bool) (n : ℕ) (xs : List X) → lesser (first_from one n xs) (first_from other n xs) ≡ first_from (λ k x. one k x || other k x) n xs
first_either one other n [] = refl
first_either {X} one other n (x ∷ xs) = by (one n x) (other n x) (first_either one other (n + 1) xs)
  where
    later : (choose : ℕ → X → Bool) (s m : ℕ) (ys : List X) → first_from choose s ys ≡ Some m → s ≤ m
    later choose s m [] is = cc
    later choose s m (y ∷ ys) is = test (choose s y) is (later choose (s + 1) m ys)
      where
        test : (b : Bool) → cond b (Some s) (first_from choose (s + 1) ys) ≡ Some m → (first_from choose (s + 1) ys ≡ Some m → s + 1 ≤ m) → s ≤ m
        test true is more = let same : s ≡ m = cc in omega (arith, same)
        test false is more = omega (arith, more is)

    left : (o : Option ℕ) → first_from other (n + 1) xs ≡ o → lesser (Some n) o ≡ Some n
    left None is = refl
    left (Some m) is = ap Some (omega (arith, later other (n + 1) m xs is))

    right : (o : Option ℕ) → first_from one (n + 1) xs ≡ o → lesser o (Some n) ≡ Some n
    right None is = refl
    right (Some m) is = ap Some (omega (arith, later one (n + 1) m xs is))

    by : (a b : Bool) → lesser (first_from one (n + 1) xs) (first_from other (n + 1) xs) ≡ first_from (λ k y. one k y || other k y) (n + 1) xs
        → lesser (cond a (Some n) (first_from one (n + 1) xs)) (cond b (Some n) (first_from other (n + 1) xs)) ≡ cond (a || b) (Some n) (first_from (λ k y. one k y || other k y) (n + 1) xs)
    by true true rest = ap Some (omega arith)
    by true false rest = left (first_from other (n + 1) xs) refl
    by false true rest = right (first_from one (n + 1) xs) refl
    by false false rest = rest

-- a first place by a test that tells the same of each element
pub first_same : {X : Type 0} (one other : ℕ → X → Bool) (n : ℕ) (xs : List X) → ((k : ℕ) (x : X) → slice_get xs k ≡ Some x → one (n + k) x ≡ other (n + k) x) → first_from one n xs ≡ first_from other n xs
first_same one other n [] same = refl
first_same one other n (x ∷ xs) same =
    ap₂ (λ b rest. cond b (Some n) rest) (subst (λ k. one k x ≡ other k x) (omega arith) (same 0 x refl))
    (first_same one other (n + 1) xs (λ k y at. subst (λ i. one i y ≡ other i y) (omega arith) (same (suc k) y at)))

-- and none where no element passes
pub first_never : {X : Type 0} (test : ℕ → X → Bool) (n : ℕ) (xs : List X) → ((k : ℕ) (x : X) → test k x ≡ false) → first_from test n xs ≡ None
first_never test n [] never = refl
first_never test n (x ∷ xs) never = ap (λ b. cond b (Some n) (first_from test (n + 1) xs)) (never n x) ∙ first_never test (n + 1) xs never

-- equal functions make equal lists
pub mapped_same : {X Y : Type 0} (f g : X → Option Y) (xs : List X) → ((x : X) → f x ≡ g x) → filter_map f xs ≡ filter_map g xs
mapped_same f g [] same = refl
mapped_same f g (x ∷ xs) same = ap₂ cons_option (same x) (mapped_same f g xs same)
