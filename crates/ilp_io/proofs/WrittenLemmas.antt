-- What was written line by line.
use Rattle.std.proofs.Common.{◌≡◌, ℕ, ◌+◌, List, [], ◌∷◌, ◌++◌, take, drop, Option, Some, Result, Ok, Err, sym, ap, ◌∙◌, subst}
use Rattle.std.specs.Prelude.{slice_get, OnOk, OnErr}
use Rattle.std.specs.List.{flat_map}
use Rattle.std.specs.Io.KnownBytes.{Appends}
use Rattle.std.proofs.KnownBytes.{Appends-trans}
use Rattle.std.proofs.lemmas.Grind.{flat_map-append}
use Rattle.std.proofs.lemmas.Result.{on_ok_weaker, on_err_weaker}
use Rattle.std.proofs.lemmas.List.{append-nil, take-append-drop, take_more}
use Rattle.std.proofs.lemmas.Option.{get_or_from_slice_get, slice_get_within}
use Rattle.ilp_io.specs.Writing.{AppendsProperPrefix}
use Rattle.ilp_io.proofs.WritingLemmas.{AppendsProperPrefix-after, AppendsProperPrefix-more}

-- a list as far as a place and the element there
take_next : {X : Type 0} (xs : List X) (n : ℕ) (x : X) → slice_get xs n ≡ Some x → take (n + 1) xs ≡ take n xs ++ x ∷ []
take_next xs n x stands = take_more xs n x (slice_get_within xs n x stands) ∙ ap (λ y. take n xs ++ y ∷ []) (get_or_from_slice_get xs n x x stands)

-- ---- parts of a text

-- what is, is at an error
pub at_err : {T E : Type 0} (r : Result T E) (P : Type 0) → P → OnErr r P
at_err (Ok x) P p = tt
at_err (Err e) P p = p

-- not all of a, and so not all of a and b
pub stopped : {T E : Type 0} (r : Result T E) (u v : Option (List ℕ)) (a b : List ℕ) → AppendsProperPrefix u v a → OnErr r (AppendsProperPrefix u v (a ++ b))
stopped r u v a b part = at_err r (AppendsProperPrefix u v (a ++ b)) (AppendsProperPrefix-more u v a b part)

-- all of a, and then b
pub then_all : {T E : Type 0} (r : Result T E) (u v w : Option (List ℕ)) (a b : List ℕ) → Appends u v a → OnOk r (Appends v w b) → OnOk r (Appends u w (a ++ b))
then_all r u v w a b first = on_ok_weaker r (λ next. Appends-trans u v w a b first next)

pub then_part : {T E : Type 0} (r : Result T E) (u v w : Option (List ℕ)) (a b : List ℕ) → Appends u v a → OnErr r (AppendsProperPrefix v w b) → OnErr r (AppendsProperPrefix u w (a ++ b))
then_part r u v w a b first = on_err_weaker r (λ next. AppendsProperPrefix-after u v w a b first next)

-- ---- lines

-- the lines as far as an element, and those of the element
lines_next : {X : Type 0} (f : X → List ℕ) (xs : List X) (n : ℕ) (x : X) → slice_get xs n ≡ Some x → flat_map f (take n xs) ++ f x ≡ flat_map f (take (n + 1) xs)
lines_next f xs n x stands =
    ap (λ (line : List ℕ). flat_map f (take n xs) ++ line) (sym (append-nil (f x))) ∙ sym (flat_map-append f (take n xs) (x ∷ [])) ∙ ap (flat_map f) (sym (take_next xs n x stands))

-- one more was written
pub wrote_next : {X : Type 0} (f : X → List ℕ) (xs : List X) (n : ℕ) (x : X) (u v w : Option (List ℕ)) → slice_get xs n ≡ Some x
    → Appends u v (flat_map f (take n xs)) → Appends v w (f x) → Appends u w (flat_map f (take (n + 1) xs))
wrote_next f xs n x u v w stands before here =
    subst (Appends u w) (lines_next f xs n x stands) (Appends-trans u v w (flat_map f (take n xs)) (f x) before here)

-- not all of the next one was written, and so not all of them
pub stopped_at : {X : Type 0} (f : X → List ℕ) (xs : List X) (n : ℕ) (x : X) (u v w : Option (List ℕ)) → slice_get xs n ≡ Some x
    → Appends u v (flat_map f (take n xs)) → AppendsProperPrefix v w (f x) → AppendsProperPrefix u w (flat_map f xs)
stopped_at f xs n x u v w stands before here =
    let front = flat_map f (take n xs) ++ f x in
    let rest = flat_map f (drop (n + 1) xs) in
    let all : front ++ rest ≡ flat_map f xs =
    ap (λ (lines : List ℕ). lines ++ rest) (lines_next f xs n x stands) ∙ sym (flat_map-append f (take (n + 1) xs) (drop (n + 1) xs)) ∙ ap (flat_map f) (take-append-drop (n + 1) xs) in
    subst (AppendsProperPrefix u w) all
    (AppendsProperPrefix-more u w front rest (AppendsProperPrefix-after u v w (flat_map f (take n xs)) (f x) before here))
