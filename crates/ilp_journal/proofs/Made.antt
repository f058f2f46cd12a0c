-- Lists that a function makes of places and elements, what comes first in a list, and facts of each element.
use Rattle.std.proofs.Common.{◌≡◌, ℕ, suc, ◌+◌, Bool, true, false, cond, List, [], ◌∷◌, ◌++◌, map, Option, Some, None, refl, sym, ap, ap₂, ◌∙◌, arith, zero-add, add-one, IfSome, IsSome, sum_by, filter_map, unwrap_or, option_map, option_and_then, slice_get}
use Rattle.std.specs.List.{cons_option}
use Rattle.std.specs.Option.{option_or}
use Rattle.std.proofs.lemmas.List.Sums.{sum_by-cons}
use Rattle.ilp_order.specs.Places.{sum_from, first_from, EachAfter}
use Rattle.ilp_journal.specs.Made.{filter_map_from}

-- ---- what is made of a list

-- equal functions make equal lists
pub made-same : {X Y : Type 0} (f g : ℕ → X → Option Y) (n : ℕ) (xs : List X) → ((k : ℕ) (x : X) → f k x ≡ g k x)
    → filter_map_from f n xs ≡ filter_map_from g n xs
made-same f g n [] same = refl
made-same f g n (x ∷ xs) same = ap₂ cons_option (same n x) (made-same f g (n + 1) xs same)

-- nothing is made where f makes nothing
pub made-none : {X Y : Type 0} (f : ℕ → X → Option Y) (n : ℕ) (xs : List X) → ((k : ℕ) (x : X) → f k x ≡ None) → filter_map_from f n xs ≡ []
made-none f n [] none = refl
made-none f n (x ∷ xs) none = ap₂ cons_option (none n x) (made-none f (n + 1) xs none)

-- the sum over what is made
pub sum_by-made : {X Y : Type 0} (g : Y → ℕ) (f : ℕ → X → Option Y) (n : ℕ) (xs : List X)
    → sum_by g (filter_map_from f n xs) ≡ sum_from (λ k x. unwrap_or (option_map g (f k x)) 0) n xs
sum_by-made g f n [] = refl
sum_by-made {X} {Y} g f n (x ∷ xs) =
    first (f n x) (filter_map_from f (n + 1) xs) ∙ ap (λ s. unwrap_or (option_map g (f n x)) 0 + s) (sum_by-made g f (n + 1) xs)
  where
    first : (o : Option Y) (rest : List Y) → sum_by g (cons_option o rest) ≡ unwrap_or (option_map g o) 0 + sum_by g rest
    first None rest = sym (zero-add (sum_by g rest))
    first (Some y) rest = sum_by-cons g y rest

-- the sum over mapped elements
pub sum_by-map : {X Y : Type 0} (g : Y → ℕ) (h : X → Y) (xs : List X) → sum_by g (map h xs) ≡ sum_by (λ x. g (h x)) xs
sum_by-map g h [] = refl
sum_by-map g h (x ∷ xs) = sum_by-cons g (h x) (map h xs) ∙ ap (λ s. g (h x) + s) (sum_by-map g h xs) ∙ sym (sum_by-cons (λ y. g (h y)) x xs)

-- what is made of what was made
pub filter_map-made : {X Y Z : Type 0} (h : Y → Option Z) (f : ℕ → X → Option Y) (n : ℕ) (xs : List X)
    → filter_map h (filter_map_from f n xs) ≡ filter_map_from (λ k x. option_and_then h (f k x)) n xs
filter_map-made h f n [] = refl
filter_map-made {X} {Y} h f n (x ∷ xs) =
    first (f n x) (filter_map_from f (n + 1) xs) ∙ ap (cons_option (option_and_then h (f n x))) (filter_map-made h f (n + 1) xs)
  where
    first : (o : Option Y) (rest : List Y) → filter_map h (cons_option o rest) ≡ cons_option (option_and_then h o) (filter_map h rest)
    first None rest = refl
    first (Some y) rest = refl

-- what is made of mapped elements
pub filter_map-map : {X Y Z : Type 0} (h : Y → Option Z) (g : X → Y) (xs : List X) → filter_map h (map g xs) ≡ filter_map (λ x. h (g x)) xs
filter_map-map h g [] = refl
filter_map-map h g (x ∷ xs) = ap (cons_option (h (g x))) (filter_map-map h g xs)

-- ---- what comes first

-- the first of what f makes of the elements
abbrev pub first_some : {X Y : Type 0} → (X → Option Y) → List X → Option Y
first_some f [] = None
first_some f (x ∷ xs) = option_or (f x) (first_some f xs)

pub first_some-append : {X Y : Type 0} (f : X → Option Y) (xs ys : List X) → first_some f (xs ++ ys) ≡ option_or (first_some f xs) (first_some f ys)
first_some-append f [] ys = refl
first_some-append {X} {Y} f (x ∷ xs) ys = ap (option_or (f x)) (first_some-append f xs ys) ∙ either (f x) (first_some f xs) (first_some f ys)
  where
    either : (a b c : Option Y) → option_or a (option_or b c) ≡ option_or (option_or a b) c
    either None b c = refl
    either (Some y) b c = refl

pub first_some-map : {X Y Z : Type 0} (f : Y → Option Z) (g : X → Y) (xs : List X) → first_some f (map g xs) ≡ first_some (λ x. f (g x)) xs
first_some-map f g [] = refl
first_some-map f g (x ∷ xs) = ap (option_or (f (g x))) (first_some-map f g xs)

-- the first of what is made of what was made
pub first_some-made : {X Y Z : Type 0} (h : Y → Option Z) (f : ℕ → X → Option Y) (g : X → Option Z) (n : ℕ) (xs : List X)
    → ((k : ℕ) (x : X) → option_and_then h (f k x) ≡ g x) → first_some h (filter_map_from f n xs) ≡ first_some g xs
first_some-made h f g n [] same = refl
first_some-made {X} {Y} h f g n (x ∷ xs) same =
    first (f n x) (filter_map_from f (n + 1) xs) ∙ ap₂ option_or (same n x) (first_some-made h f g (n + 1) xs same)
  where
    first : (o : Option Y) (rest : List Y) → first_some h (cons_option o rest) ≡ option_or (option_and_then h o) (first_some h rest)
    first None rest = refl
    first (Some y) rest = refl

-- where f makes nothing there is no first
pub first_some-none : {X Y : Type 0} (f : X → Option Y) (xs : List X) → ((x : X) → f x ≡ None) → first_some f xs ≡ None
first_some-none f [] none = refl
first_some-none f (x ∷ xs) none = ap₂ option_or (none x) (first_some-none f xs none)

-- the first of what is made of the things that f makes is what is made of the first
pub first_some-after : {X Y Z : Type 0} (h : Y → Z) (f : X → Option Y) (g : X → Option Z) (xs : List X)
    → ((x : X) → g x ≡ option_map h (f x)) → first_some g xs ≡ option_map h (first_some f xs)
first_some-after h f g [] same = refl
first_some-after {X} {Y} h f g (x ∷ xs) same = ap₂ option_or (same x) (first_some-after h f g xs same) ∙ either (f x) (first_some f xs)
  where
    either : (a b : Option Y) → option_or (option_map h a) (option_map h b) ≡ option_map h (option_or a b)
    either None b = refl
    either (Some y) b = refl

-- places counted from one further on
first_from-suc : {X : Type 0} (test : X → Bool) (n : ℕ) (xs : List X)
    → first_from (λ _ x. test x) (n + 1) xs ≡ option_map (λ k. suc k) (first_from (λ _ x. test x) n xs)
first_from-suc test n [] = refl
first_from-suc test n (x ∷ xs) = either (test x) _ _ (first_from-suc test (n + 1) xs)
  where
    either : (b : Bool) (more less : Option ℕ) → more ≡ option_map (λ k. suc k) less
        → cond b (Some (n + 1)) more ≡ option_map (λ k. suc k) (cond b (Some n) less)
    either true more less e = ap Some (add-one n)
    either false more less e = e

-- what f makes of the element at the first place that passes the test, if f makes something of each that passes
pub first_from_is : {X Y : Type 0} (test : X → Bool) (f : X → Option Y) (xs : List X) → ((x : X) → test x ≡ true → IsSome (f x))
    → option_and_then (λ n. option_and_then f (slice_get xs n)) (first_from (λ _ x. test x) 0 xs) ≡ first_some (λ x. cond (test x) (f x) None) xs
first_from_is test f [] sure = refl
first_from_is {X} {Y} test f (x ∷ xs) sure =
    ap (option_and_then (λ n. option_and_then f (slice_get (x ∷ xs) n))) (ap (cond (test x) (Some 0)) (first_from-suc test 0 xs))
    ∙ at (test x) refl (first_from (λ _ y. test y) 0 xs) ∙ ap (option_or (cond (test x) (f x) None)) (first_from_is test f xs sure)
  where
    whole : (o rest : Option Y) → IsSome o → o ≡ option_or o rest
    whole None rest h = cc
    whole (Some y) rest h = refl

    behind : (o : Option ℕ) → option_and_then (λ n. option_and_then f (slice_get (x ∷ xs) n)) (option_map (λ k. suc k) o)
        ≡ option_and_then (λ n. option_and_then f (slice_get xs n)) o
    behind None = refl
    behind (Some n) = refl

    at : (b : Bool) → test x ≡ b → (o : Option ℕ)
        → option_and_then (λ n. option_and_then f (slice_get (x ∷ xs) n)) (cond b (Some 0) (option_map (λ k. suc k) o))
        ≡ option_or (cond b (f x) None) (option_and_then (λ n. option_and_then f (slice_get xs n)) o)
    at true e o = whole (f x) _ (sure x e)
    at false e o = behind o

-- ---- facts of each element

-- P holds of each element
abbrev pub Every : {X : Type 0} → (X → Type 0) → List X → Type 0
Every P [] = Unit {0}
Every P (x ∷ xs) = P x × Every P xs

pub every-append : {X : Type 0} (P : X → Type 0) (xs ys : List X) → Every P xs → Every P ys → Every P (xs ++ ys)
every-append P [] ys p q = q
every-append P (x ∷ xs) ys p q = (p.0, every-append P xs ys p.1 q)

pub every-map : {X Y : Type 0} (P : Y → Type 0) (h : X → Y) (xs : List X) → Every (λ x. P (h x)) xs → Every P (map h xs)
every-map P h [] p = tt
every-map P h (x ∷ xs) p = (p.0, every-map P h xs p.1)

-- P holds of each element that is made
pub every-made : {X Y : Type 0} (P : Y → Type 0) (f : ℕ → X → Option Y) (n : ℕ) (xs : List X) → ((k : ℕ) (x : X) → IfSome (f k x) P)
    → Every P (filter_map_from f n xs)
every-made P f n [] of = tt
every-made {X} {Y} P f n (x ∷ xs) of = first (f n x) _ (of n x) (every-made P f (n + 1) xs of)
  where
    first : (o : Option Y) (rest : List Y) → IfSome o P → Every P rest → Every P (cons_option o rest)
    first None rest p q = q
    first (Some y) rest p q = (p, q)

-- what holds of each element holds of each with those before it
pub each-every : {X : Type 0} (P : X → Type 0) (Q : List X → X → Type 0) (before xs : List X) → ((b : List X) (x : X) → P x → Q b x) → Every P xs
    → EachAfter Q before xs
each-every P Q before [] step p = tt
each-every P Q before (x ∷ xs) step p = (step before x p.0, each-every P Q (before ++ x ∷ []) xs step p.1)

-- the sum of zeros
pub sum_from-every_zero : {X : Type 0} (f : ℕ → X → ℕ) (n : ℕ) (xs : List X) → Every (λ x. (k : ℕ) → f k x ≡ 0) xs → sum_from f n xs ≡ 0
sum_from-every_zero f n [] p = refl
sum_from-every_zero f n (x ∷ xs) p = omega (arith, p.0 n, sum_from-every_zero f (n + 1) xs p.1)

-- equal terms have equal sums
pub sum_by-every_same : {X : Type 0} (f g : X → ℕ) (xs : List X) → Every (λ x. f x ≡ g x) xs → sum_by f xs ≡ sum_by g xs
sum_by-every_same f g [] p = refl
sum_by-every_same f g (x ∷ xs) p = omega (arith, sum_by-cons f x xs, sum_by-cons g x xs, p.0, sum_by-every_same f g xs p.1)

-- no place passes a test that no element passes
pub first_from-every_none : {X : Type 0} (test : ℕ → X → Bool) (n : ℕ) (xs : List X) → Every (λ x. (k : ℕ) → test k x ≡ false) xs → first_from test n xs ≡ None
first_from-every_none test n [] p = refl
first_from-every_none test n (x ∷ xs) p = rw (p.0 n) (first_from-every_none test (n + 1) xs p.1)

-- what is made where places don't matter
pub made-every_same : {X Y : Type 0} (f : ℕ → X → Option Y) (g : X → Option Y) (n : ℕ) (xs : List X) → Every (λ x. (k : ℕ) → f k x ≡ g x) xs
    → filter_map_from f n xs ≡ filter_map g xs
made-every_same f g n [] p = refl
made-every_same f g n (x ∷ xs) p = ap₂ cons_option (p.0 n) (made-every_same f g (n + 1) xs p.1)
